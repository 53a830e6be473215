use Rattle.std.proofs.Common.{◌≡◌, ◌++◌, drop}
use Rattle.fabric.specs.Named.{by_endpoint, named_from}
use Rattle.fabric.proofs.firewalls.endpoints_of.Given as goal

abbrev pub invariant-loop-number : goal.invariant-loop-number
invariant-loop-number l = l.rows.items ++ named_from by_endpoint l.number (drop l.number l.n.appliances) ≡ named_from by_endpoint 0 l.n.appliances
