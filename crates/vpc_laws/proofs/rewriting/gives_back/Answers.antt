use Rattle.vpc_laws.proofs.Gateways.{nat_gives_back}
use Rattle.vpc_laws.proofs.rewriting.gives_back.Goals as goal

pub returns : goal.returns
returns c = nat_gives_back
