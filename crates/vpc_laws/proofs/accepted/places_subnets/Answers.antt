use Rattle.vpc_laws.proofs.Numbering.{accepted_numbers_are_in_range}
use Rattle.vpc_laws.proofs.accepted.places_subnets.Goals as goal

pub returns : goal.returns
returns c = accepted_numbers_are_in_range
