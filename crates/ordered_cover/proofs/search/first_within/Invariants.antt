use Rattle.ordered_cover.specs.Open.{AreSplitBySome}
use Rattle.ordered_cover.proofs.search.first_within.Given as goal

abbrev pub invariant-asked : goal.invariant-asked
invariant-asked g l = AreSplitBySome (g.P.Probe.meaning l.p) (g.P.Probe.cuts l.p) l.fn.sides l.boxes
