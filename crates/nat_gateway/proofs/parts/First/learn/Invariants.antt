use Rattle.std.proofs.Common.{◌-◌, length}
use Rattle.nat_gateway.specs.Tables.{IsFirst}
use Rattle.nat_gateway.proofs.parts.First.learn.Given as goal

abbrev pub invariant-loop-self : goal.invariant-loop-self
invariant-loop-self g l = IsFirst g.T.Part.is_of l.self.table l.self.count l.list

abbrev pub decreases-loop-self : goal.decreases-loop-self
decreases-loop-self g l = length l.list - l.self.count
