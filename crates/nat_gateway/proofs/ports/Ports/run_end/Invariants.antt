use Rattle.std.proofs.Common.{◌≤◌, ◌-◌}
use Rattle.nat_gateway.specs.Tables.{AllUsed}
use Rattle.nat_gateway.proofs.ports.Ports.run_end.Given as goal

abbrev pub invariant-loop-end : goal.invariant-loop-end
invariant-loop-end l = record { from : l.port ≤ l.end; most : l.end ≤ 65536; taken : AllUsed l.self l.flow l.port l.end }

abbrev pub decreases-loop-end : goal.decreases-loop-end
decreases-loop-end l = 65536 - l.end
