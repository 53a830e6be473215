use Rattle.reach_matrix.proofs.PortLemmas.{ports_have_firsts}
use Rattle.reach_matrix.proofs.laws.ports_have_firsts.Goals as goal

pub returns : goal.returns
returns c = ports_have_firsts
