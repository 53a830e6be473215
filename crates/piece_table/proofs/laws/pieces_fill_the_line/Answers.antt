use Rattle.piece_table.proofs.PieceLemmas.{first_of-le, first_of-next, last_of-last}
use Rattle.piece_table.proofs.laws.pieces_fill_the_line.Goals as goal

pub returns-clause-some : goal.returns-clause-some
returns-clause-some c = first_of-le

pub returns-clause-next : goal.returns-clause-next
returns-clause-next c = first_of-next

pub returns-clause-end : goal.returns-clause-end
returns-clause-end c = last_of-last
