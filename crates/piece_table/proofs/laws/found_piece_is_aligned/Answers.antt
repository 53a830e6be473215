use Rattle.piece_table.proofs.PieceLemmas.{found_is_aligned}
use Rattle.piece_table.proofs.laws.found_piece_is_aligned.Goals as goal

pub returns : goal.returns
returns c = found_is_aligned
