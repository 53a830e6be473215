use Rattle.reach_matrix.proofs.PortLemmas.{blocked_pairs_are_answered}
use Rattle.reach_matrix.proofs.laws.blocked_pairs_are_answered.Goals as goal

pub returns : goal.returns
returns c = blocked_pairs_are_answered
