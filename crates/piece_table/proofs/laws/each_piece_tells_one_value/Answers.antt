use Rattle.piece_table.proofs.PieceLemmas.{told_at-LiesIn, number_at-found, told_at-found}
use Rattle.piece_table.proofs.laws.each_piece_tells_one_value.Goals as goal

pub returns-clause-of_piece : goal.returns-clause-of_piece
returns-clause-of_piece c = told_at-LiesIn

pub returns-clause-one : goal.returns-clause-one
returns-clause-one c = number_at-found

pub returns-clause-alike : goal.returns-clause-alike
returns-clause-alike c = told_at-found
