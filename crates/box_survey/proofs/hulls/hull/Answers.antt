use Rattle.std.proofs.Common.{◌≤◌, ◌<◌, length, arith}
use Rattle.std.proofs.lemmas.List.{take_all}
use Rattle.header_boxes.proofs.Held.{within_trans}
use Rattle.box_survey.proofs.Within.{all_within_more, valid_if_holds_box}
use Rattle.box_survey.proofs.hulls.hull.Goals as goal

pub loop-b-preserved : goal.loop-b-preserved
loop-b-preserved c =
    let lt : c.loop-b.b-index < length c.args.boxes.now = omega arith in (
      within_trans c.args.whole.now c.loop-b.hull c.joined-hull.result c.loop-b.invariant.0 c.joined-hull.ensures.first,
      all_within_more c.args.boxes.now c.loop-b.hull c.joined-hull.result c.loop-b.b-index _ lt c.joined-hull.ensures.first c.joined-hull.ensures.second c.loop-b.invariant.1,
    )

pub returns-clause-boxes : goal.returns-clause-boxes
returns-clause-boxes c =
    let le : length c.args.boxes.now ≤ c.loop-b.b-index = omega arith in
    rw take_all at c.loop-b.invariant.1

pub returns-clause-valid : goal.returns-clause-valid
returns-clause-valid c = valid_if_holds_box c.args.whole.now c.loop-b.hull c.loop-b.invariant.0
