use Rattle.std.proofs.Common.{◌≡◌, ◌++◌, map, take}
use Rattle.route_tables.specs.Rows.{length_row}
use Rattle.route_tables.proofs.locals.add_lengths.Given as goal

abbrev pub invariant-loop-block : goal.invariant-loop-block
invariant-loop-block l = l.rows.items ≡ l.initial.rows.items ++ map length_row (take l.block-index l.blocks)
