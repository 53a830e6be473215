use Rattle.std.proofs.Common.{◌≡◌, ◌++◌, drop}
use Rattle.fabric.specs.Named.{by_gateways, named_from}
use Rattle.fabric.proofs.gateway_tables.gateways_of.Given as goal

abbrev pub invariant-loop-number : goal.invariant-loop-number
invariant-loop-number l = l.rows.items ++ named_from by_gateways l.number (drop l.number l.n.tables) ≡ named_from by_gateways 0 l.n.tables
