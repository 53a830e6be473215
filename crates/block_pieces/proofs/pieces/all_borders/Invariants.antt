use Rattle.std.proofs.Common.{◌≡◌, ◌∷◌, take}
use Rattle.std.specs.List.{All}
use Rattle.prefix_text.specs.Block.{IsBlock}
use Rattle.block_pieces.specs.Sweep.{within_line}
use Rattle.block_pieces.proofs.pieces.all_borders.Given as goal

abbrev pub invariant-loop-row : goal.invariant-loop-row
invariant-loop-row l = (l.borders.items ≡ 0 ∷ within_line (take l.row-index l.rows)) × All (λ r. IsBlock r.block) (take l.row-index l.rows)
