use Rattle.vpc_laws.proofs.Gateways.{nat_gives_own_address}
use Rattle.vpc_laws.proofs.rewriting.translates_to_own_address.Goals as goal

pub returns : goal.returns
returns c = nat_gives_own_address
