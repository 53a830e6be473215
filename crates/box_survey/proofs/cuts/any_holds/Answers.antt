use Rattle.std.proofs.Common.{ℕ, ◌<◌, length, get_or, arith, sym, ◌∙◌}
use Rattle.std.proofs.lemmas.List.{get_or_default}
use Rattle.box_survey.proofs.Meeting.{holder_at}
use Rattle.box_survey.proofs.cuts.any_holds.Goals as goal

pub returns-then-holds_sides : goal.returns-then-holds_sides
returns-then-holds_sides c t =
    let lt : c.loop-i.i-index < length c.args.numbers.now = omega arith in
    let i : ℕ = get_or c.args.numbers.now c.loop-i.i-index 0 in
    (c.loop-i.i-index, i, lt, get_or_default c.args.numbers.now c.loop-i.i-index i 0 lt, holder_at c.args.boxes.now c.args.cell.now i c.in-Some.b.now (sym c.in-Some.ensures) (sym c.holds_sides.ensures ∙ c.if-holds_sides.true))
