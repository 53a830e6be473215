use Rattle.std.proofs.Common.{◌≡◌, map, take}
use Rattle.fabric.specs.Outside.{network_table}
use Rattle.fabric.proofs.gateway_tables.network_tables.Given as goal

abbrev pub invariant-loop-far : goal.invariant-loop-far
invariant-loop-far l = l.tables.items ≡ map (network_table l.n) (take l.far-index l.fars)
