use Rattle.reach_matrix.proofs.AskedLemmas.{ports_are_those_of_ask}
use Rattle.reach_matrix.proofs.laws.ports_are_those_of_ask.Goals as goal

pub returns : goal.returns
returns c = ports_are_those_of_ask
