use Rattle.std.proofs.Common.{◌≤◌, length, sum_by}
use Rattle.header_boxes.specs.Boxes.{volume_of}
use Rattle.ordered_cover.specs.Joined.{AreJoined, GoesOnEitherWay}
use Rattle.ordered_cover.specs.Open.{AreSplit, every}
use Rattle.ordered_cover.proofs.search.cover.Given as goal

abbrev pub invariant-kept : goal.invariant-kept
invariant-kept g l = record {
  split : AreSplit (g.P.Probe.meaning l.p) (g.P.Probe.cuts l.p) every l.fn.sides l.boxes l.rows.items;
  few : length l.rows.items ≤ l.max;
  joined : AreJoined GoesOnEitherWay l.rows.items;
}

abbrev pub decreases-kept : goal.decreases-kept
decreases-kept g l = sum_by volume_of l.boxes
