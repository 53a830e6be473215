use Rattle.std.proofs.Common.{◌≡◌, map, take}
use Rattle.fabric.specs.Targets.{targets_of}
use Rattle.fabric.proofs.targets.targets_by_route.Given as goal

abbrev pub invariant-loop-table : goal.invariant-loop-table
invariant-loop-table l = l.targets.items ≡ map (targets_of l.n) (take l.table-index l.n.tables)
