use Rattle.std.proofs.Common.{◌≡◌, ◌++◌, map, take}
use Rattle.std.specs.List.{All}
use Rattle.prefix_text.specs.Block.{IsBlock}
use Rattle.route_tables.specs.Rows.{row_of}
use Rattle.route_tables.proofs.counted.add_all.Given as goal

abbrev pub invariant-loop-block : goal.invariant-loop-block
invariant-loop-block l = (l.rows.items ≡ l.initial.rows.items ++ map (row_of l.kind l.number) (take l.block-index l.blocks)) × All IsBlock (take l.block-index l.blocks)
