use Rattle.std.proofs.Common.{◌≤◌, ◌-◌}
use Rattle.nat_gateway.specs.Tables.{AllUsed, SameUsed}
use Rattle.nat_gateway.proofs.ports.Ports.shorten.Given as goal

abbrev pub invariant-loop-port : goal.invariant-loop-port
invariant-loop-port l = record { from : l.port ≤ l.end; same : SameUsed l.self l.fn.self; taken : AllUsed l.self l.flow l.port l.end }

abbrev pub decreases-loop-port : goal.decreases-loop-port
decreases-loop-port l = l.end - l.port
