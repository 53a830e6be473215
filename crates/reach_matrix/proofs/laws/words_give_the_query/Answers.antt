use Rattle.reach_matrix.proofs.NamingLemmas.{words_give_the_query}
use Rattle.reach_matrix.proofs.laws.words_give_the_query.Goals as goal

pub returns : goal.returns
returns c = words_give_the_query
