use Rattle.vpc_laws.proofs.Sources.{nat_sources_are_interfaces}
use Rattle.vpc_laws.proofs.rewriting.translates_to_an_interface.Goals as goal

pub returns : goal.returns
returns c = nat_sources_are_interfaces
