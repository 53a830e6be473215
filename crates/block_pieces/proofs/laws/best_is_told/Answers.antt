use Rattle.block_pieces.proofs.ToldLemmas.{best_is_told, none_is_told}
use Rattle.block_pieces.proofs.laws.best_is_told.Goals as goal

pub returns-clause-best : goal.returns-clause-best
returns-clause-best c = best_is_told

pub returns-clause-none : goal.returns-clause-none
returns-clause-none c = none_is_told
