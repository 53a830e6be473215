use Rattle.std.proofs.Common.{◌≡◌, ◌++◌, map, take}
use Rattle.fabric.specs.Named.{named_by}
use Rattle.fabric.proofs.gateway_tables.add_gateways.Given as goal

abbrev pub invariant-loop-gateway : goal.invariant-loop-gateway
invariant-loop-gateway l = l.rows.items ≡ l.initial.rows.items ++ map (named_by l.number) (take l.gateway-index l.gateways)
