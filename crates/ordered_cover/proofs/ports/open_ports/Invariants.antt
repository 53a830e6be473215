use Rattle.std.proofs.Common.{◌+◌, ◌-◌}
use Rattle.ordered_cover.specs.Passed.{AreOpenBelow}
use Rattle.ordered_cover.proofs.ports.open_ports.Given as goal

abbrev pub invariant-decided : goal.invariant-decided
invariant-decided g l = AreOpenBelow (g.P.Probe.meaning l.p) l.fn.sides l.rest l.ranges.items

abbrev pub decreases-decided : goal.decreases-decided
decreases-decided g l = l.fn.sides.q.1 + 1 - l.rest.q.0
