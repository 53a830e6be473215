use Rattle.std.proofs.Common.{◌≡◌, true, false, not, sym, subst, ap, ◌∙◌}
use Rattle.std.specs.Option.{is_some}
use Rattle.ordered_cover.specs.Open.{AreSplitBySome}
use Rattle.ordered_cover.proofs.Splits.{some_at_start, some_found, some_after, some_none_through}
use Rattle.ordered_cover.proofs.search.first_within.Goals as goal

pub asked-init : goal.asked-init
asked-init g c = subst (AreSplitBySome (g.P.Probe.meaning c.args.p.now) (g.P.Probe.cuts c.args.p.now) c.args.sides) (sym c.in_ok-boxes.ensures) (some_at_start c.requires)

pub returns-in_default : goal.returns-in_default
returns-in_default g c = some_none_through (rw c.in_default.is at c.in_ok-part.ensures.none) c.asked.invariant

pub returns-then-is_none : goal.returns-then-is_none
returns-then-is_none g c =
    let asked = rw c.in-Some.is at c.in_ok-part.ensures.asked in
    let none : is_some c.in-Some.word ≡ false = c.is_none.ensures ∙ ap not c.if-is_none.true in
    rw c.low.ensures.value (some_found c.asked.invariant asked none)

pub asked-preserved : goal.asked-preserved
asked-preserved g c =
    let asked = rw c.in-Some.is at c.in_ok-part.ensures.asked in
    let some : is_some c.in-Some.word ≡ true = c.is_none.ensures ∙ ap not c.if-is_none.false in
    some_after c.asked.invariant asked some
