use Rattle.header_boxes.specs.Boxes.{low_of}
use Rattle.ordered_cover.specs.Passed.{IsAsking, ahead}
use Rattle.ordered_cover.proofs.ports.first_ports.Given as goal

abbrev pub invariant-asked : goal.invariant-asked
invariant-asked g l = IsAsking (g.P.Probe.meaning l.p) l.fn.sides l.asked

abbrev pub decreases-asked : goal.decreases-asked
decreases-asked g l = ahead l.fn.sides (low_of l.asked)
