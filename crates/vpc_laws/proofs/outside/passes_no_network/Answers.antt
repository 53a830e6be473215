use Rattle.vpc_laws.proofs.Beyond.{networks_stand_at_ends}
use Rattle.vpc_laws.proofs.outside.passes_no_network.Goals as goal

pub returns : goal.returns
returns c = networks_stand_at_ends
