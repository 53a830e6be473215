use Rattle.transit_gateway.proofs.Steps.{AreFirst}
use Rattle.transit_gateway.proofs.tables.all_pieces.Given as goal

abbrev pub invariant-loop-table : goal.invariant-loop-table
invariant-loop-table l = AreFirst l.tables l.table-index l.all.items
