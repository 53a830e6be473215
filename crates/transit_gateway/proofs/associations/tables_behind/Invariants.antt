use Rattle.std.proofs.Common.{◌≡◌, map, take}
use Rattle.transit_gateway.specs.Tables.{table_behind}
use Rattle.transit_gateway.proofs.associations.tables_behind.Given as goal

abbrev pub invariant-loop-far : goal.invariant-loop-far
invariant-loop-far l = l.tables.items ≡ map (table_behind l.n) (take l.far-index l.fars)
