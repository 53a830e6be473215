use Rattle.vpc_laws.proofs.Numbering.{nat_addresses_are_interfaces}
use Rattle.vpc_laws.proofs.accepted.places_nat_gateways.Goals as goal

pub returns : goal.returns
returns c = nat_addresses_are_interfaces
