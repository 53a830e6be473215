use Rattle.std.proofs.Common.{ℕ, ◌<◌, length, get_or, arith, sym}
use Rattle.std.proofs.lemmas.List.{get_or_default}
use Rattle.box_survey.proofs.Ends.{ends_more, ends_none}
use Rattle.box_survey.proofs.cuts.ends_on.Goals as goal
use Rattle.box_survey.proofs.cuts.ends_on.Goals.{in-Some+in_ok-push_ends, in_default}

pub loop-i-preserved : goal.loop-i-preserved
loop-i-preserved c =
    let lt : c.loop-i.i-index < length c.args.numbers.now = omega arith in
    let i : ℕ = get_or c.args.numbers.now c.loop-i.i-index 0 in
    let at = sym (get_or_default c.args.numbers.now c.loop-i.i-index i 0 lt) in
    elim c.match-numbered.branch [
      | in-Some+in_ok-push_ends w ↦ rw w.ends-is
          (ends_more c.args.boxes.now c.args.cell.now c.args.side c.args.numbers.now c.loop-i.ends.items w.push_ends.new.ends.items c.loop-i.i-index i w.in-Some.b.now lt at
          (c.requires c.loop-i.i-index 0 lt) (sym w.in-Some.ensures) (rw (c.range_on-range.ensures, w.range_on.ensures) at w.in_ok-push_ends.ensures) c.loop-i.invariant)
      | in_default w ↦ absurd (ends_none c.args.boxes.now c.args.cell.now i (sym w.in_default.ensures) (c.requires c.loop-i.i-index 0 lt))
    ]
