use Rattle.piece_table.proofs.Growth.{one_piece_is, told_at-one_piece, with_piece_is, told_at-with_piece}
use Rattle.piece_table.proofs.laws.one_more_piece.Goals as goal

pub returns-clause-one : goal.returns-clause-one
returns-clause-one c = λ x t. (one_piece_is t, told_at-one_piece x t)

pub returns-clause-pieces : goal.returns-clause-pieces
returns-clause-pieces c = with_piece_is

pub returns-clause-tells : goal.returns-clause-tells
returns-clause-tells c = told_at-with_piece
