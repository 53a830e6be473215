use Rattle.std.proofs.Common.{arith}
use Rattle.box_survey.proofs.Fullest.{fullest_first, fullest_kept, fullest_new, fullest_all}
use Rattle.box_survey.proofs.cuts.fullest_side.Goals as goal
use Rattle.box_survey.proofs.cuts.fullest_side.Goals.{then-len, else-len}

pub loop-side-init : goal.loop-side-init
loop-side-init c = fullest_first c.args.boxes.now c.args.cell.now c.args.numbers.now c.in_ok-ends_on.field-0.items c.in_ok-ends_on.ensures

pub loop-side-preserved : goal.loop-side-preserved
loop-side-preserved c =
    let boxes = c.args.boxes.now in
    let cell = c.args.cell.now in
    let numbers = c.args.numbers.now in
    elim c.if-len.branch [
      | then-len w ↦ rw w.fullest-is (fullest_new boxes cell numbers _ c.in_ok-at.at.items c.loop-side.side-index c.in_ok-at.ensures (omega (arith, w.if-len.true, c.len.ensures, c.len-in-loop-side.ensures)))
      | else-len w ↦ rw w.fullest-is (fullest_kept boxes cell numbers c.loop-side.fullest.side c.loop-side.fullest.at.items c.in_ok-at.at.items c.loop-side.side-index _ c.loop-side.invariant c.in_ok-at.ensures (omega (arith, w.if-len.false, c.len.ensures, c.len-in-loop-side.ensures)))
    ]

pub returns-clause-none : goal.returns-clause-none
returns-clause-none c =
    fullest_all c.args.boxes.now c.args.cell.now c.args.numbers.now c.loop-side.fullest.side c.loop-side.fullest.at.items c.loop-side.side-index c.loop-side.invariant (omega (arith, c.loop-side-test.false))
