use Rattle.std.proofs.Common.{◌≡◌, map, take}
use Rattle.transit_gateway.specs.Tables.{table_of_row}
use Rattle.transit_gateway.proofs.associations.tables_of.Given as goal

abbrev pub invariant-loop-attachment : goal.invariant-loop-attachment
invariant-loop-attachment l = l.tables.items ≡ map (table_of_row l.n) (take l.attachment-index l.attachments)
