use Rattle.std.proofs.Common.{sum_by}
use Rattle.header_boxes.specs.Boxes.{volume_of}
use Rattle.ordered_cover.specs.Open.{AreSplitBySome}
use Rattle.ordered_cover.proofs.search.first.Given as goal

-- the search keeps no rows, yet there are some
abbrev pub invariant-asked : goal.invariant-asked
invariant-asked g l = AreSplitBySome (g.P.Probe.meaning l.p) (g.P.Probe.cuts l.p) l.fn.sides l.boxes

abbrev pub decreases-asked : goal.decreases-asked
decreases-asked g l = sum_by volume_of l.boxes
