use Rattle.piece_table.proofs.PieceLemmas.{lies_in_its_piece, number_at-LiesIn}
use Rattle.piece_table.proofs.laws.each_address_in_one_piece.Goals as goal

pub returns-clause-lies : goal.returns-clause-lies
returns-clause-lies c = lies_in_its_piece

pub returns-clause-alone : goal.returns-clause-alone
returns-clause-alone c = number_at-LiesIn
