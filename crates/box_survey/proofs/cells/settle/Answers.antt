use Rattle.std.proofs.Common.{refl, not, arith, ap, sym, ◌∙◌}
use Rattle.std.proofs.lemmas.Bool.{both_ways}
use Rattle.box_survey.proofs.Found.{if_none, if_some, surveyed_before, surveyed_covered, surveyed_overlap, surveyed_slices}
use Rattle.box_survey.proofs.Shared.{surveyed_compared}
use Rattle.box_survey.proofs.cells.settle.Goals as goal
use Rattle.box_survey.proofs.cells.settle.Goals.{else-is_none-via-then-is_none+else-numbers-gt1, else-is_none-via-else-is_none}

pub returns-then-has_up_to : goal.returns-then-has_up_to
returns-then-has_up_to g c =
    surveyed_before (g.G.Gaps.matters c.args.gaps.now) c.args.boxes.now c.args.cell.now c.args.numbers.now c.in-Some.first.now c.args.found.now c.requires.numbers
    (sym c.in-Some.ensures.value) c.requires.there (c.has_up_to.ensures.0 c.if-has_up_to.true)

pub returns-then-is_past : goal.returns-then-is_past
returns-then-is_past g c =
    surveyed_compared (g.G.Gaps.matters c.args.gaps.now) c.args.boxes.now c.args.cell.now c.args.numbers.now c.args.found.now c.compare.new.found c.requires.numbers c.requires.there
    (c.is_past.ensures c.if-is_past.true) c.compare.ensures

pub returns-then-are_slices : goal.returns-then-are_slices
returns-then-are_slices g c =
    surveyed_slices (g.G.Gaps.matters c.args.gaps.now) c.args.boxes.now c.args.cell.now c.args.numbers.now c.args.found.now c.requires.numbers c.requires.there
    (c.are_slices.ensures c.if-are_slices.true)

pub returns-then-numbers-gt1 : goal.returns-then-numbers-gt1
returns-then-numbers-gt1 g c =
    if_none _ _ _ _ c.in_ok-cut.cut (c.is_none.ensures ∙ ap not c.if-is_none.true) c.in_ok-cut.ensures
    (λ any. surveyed_overlap (g.G.Gaps.matters c.args.gaps.now) c.args.boxes.now c.args.cell.now c.args.numbers.now c.in-Some.first.now c.args.found.now c.requires.numbers
    (sym c.in-Some.ensures.value) c.requires.there (λ upto. both_ways c.has_up_to.result c.if-has_up_to.false (c.has_up_to.ensures.1 upto)) any c.if-numbers-gt1.true)

pub returns-else-is_none : goal.returns-else-is_none
returns-else-is_none g c =
    elim c.else-is_none.branch [
      | else-is_none-via-then-is_none+else-numbers-gt1 w ↦
          if_none _ _ _ _ c.in_ok-cut.cut (c.is_none.ensures ∙ ap not w.if-is_none.true) c.in_ok-cut.ensures
          (λ any. surveyed_covered (g.G.Gaps.matters c.args.gaps.now) c.args.boxes.now c.args.cell.now c.args.numbers.now c.args.found.now c.requires.numbers c.requires.there any
          (omega (arith, w.if-numbers-gt1.false)))
      | else-is_none-via-else-is_none w ↦ if_some _ _ _ _ c.in_ok-cut.cut (c.is_none.ensures ∙ ap not w.if-is_none.false) c.in_ok-cut.ensures (λ cut inside. (inside, refl))
    ]
