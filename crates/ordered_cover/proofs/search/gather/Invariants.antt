use Rattle.std.proofs.Common.{◌≤◌, length, sum_by}
use Rattle.header_boxes.specs.Boxes.{volume_of}
use Rattle.ordered_cover.specs.Joined.{AreJoined, GoesOnEitherWay}
use Rattle.ordered_cover.specs.Open.{AreSplit, told}
use Rattle.ordered_cover.proofs.search.gather.Given as goal

abbrev pub invariant-asked : goal.invariant-asked
invariant-asked g l = record {
  split : AreSplit (g.P.Probe.meaning l.p) (g.P.Probe.cuts l.p) (told (g.P.Probe.meaning l.p)) l.fn.sides l.boxes l.rows.items;
  few : length l.rows.items ≤ l.room;
  joined : AreJoined GoesOnEitherWay l.rows.items;
}

abbrev pub decreases-asked : goal.decreases-asked
decreases-asked g l = sum_by volume_of l.boxes
