use Rattle.end_reach.proofs.JoinedLemmas.{rows_are_joined}
use Rattle.end_reach.proofs.laws.rows_are_joined.Goals as goal

pub returns : goal.returns
returns c = rows_are_joined
