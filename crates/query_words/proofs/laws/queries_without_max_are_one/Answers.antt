use Rattle.query_words.proofs.UnboundedLemmas.{without_max_queries_are_one}
use Rattle.query_words.proofs.laws.queries_without_max_are_one.Goals as goal

pub returns : goal.returns
returns c = without_max_queries_are_one
