use Rattle.std.proofs.Common.{take}
use Rattle.std.specs.List.{AllZip}
use Rattle.fabric.specs.Indexes.{IsRouteIndex}
use Rattle.fabric.proofs.routes.route_indexes.Given as goal

abbrev pub invariant-loop-k : goal.invariant-loop-k
invariant-loop-k l = AllZip (IsRouteIndex l.n) (take l.k l.n.tables) l.indexes.items
