use Rattle.vpc_laws.proofs.Gateways.{walk_gives_own_addresses}
use Rattle.vpc_laws.proofs.rewriting.keeps_own_addresses.Goals as goal

pub returns : goal.returns
returns c = walk_gives_own_addresses
