use Rattle.reach_matrix.proofs.PortLemmas.{ports_are_answered}
use Rattle.reach_matrix.proofs.laws.ports_are_answered.Goals as goal

pub returns : goal.returns
returns c = ports_are_answered
