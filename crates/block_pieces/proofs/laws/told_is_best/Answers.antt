use Rattle.block_pieces.proofs.Borders.{told-best, told-nothing}
use Rattle.block_pieces.proofs.laws.told_is_best.Goals as goal

pub returns-clause-told : goal.returns-clause-told
returns-clause-told c = told-best

pub returns-clause-untold : goal.returns-clause-untold
returns-clause-untold c = told-nothing
