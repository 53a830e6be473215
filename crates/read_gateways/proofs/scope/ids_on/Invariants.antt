use Rattle.std.proofs.Common.{◌≡◌, ◌++◌}
use Rattle.std.specs.Vec.Iter.{into_iter_items}
use Rattle.read_gateways.specs.Scope.{ids_on}
use Rattle.read_gateways.proofs.scope.ids_on.Given as goal

abbrev pub invariant-loop-row : goal.invariant-loop-row
invariant-loop-row l = l.ids.items ++ ids_on (into_iter_items l.row-iterator) ≡ ids_on l.fn.rows.items
