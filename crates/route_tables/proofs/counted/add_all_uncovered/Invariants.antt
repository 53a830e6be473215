use Rattle.std.proofs.Common.{◌≡◌, ◌++◌, map, not, take}
use Rattle.std.specs.List.{All, filter}
use Rattle.prefix_text.specs.Block.{IsBlock}
use Rattle.route_tables.specs.Rows.{is_covered, row_of}
use Rattle.route_tables.proofs.counted.add_all_uncovered.Given as goal

abbrev pub invariant-loop-block : goal.invariant-loop-block
invariant-loop-block g l = (l.rows.items ≡ l.initial.rows.items ++ filter (λ r. not (is_covered l.locals r.block)) (map (row_of 2 l.number) (take l.block-index l.blocks))) × All IsBlock (take l.block-index l.blocks)
