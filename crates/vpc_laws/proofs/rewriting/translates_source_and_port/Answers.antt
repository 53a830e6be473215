use Rattle.vpc_laws.proofs.Gateways.{nat_changes_source_and_port}
use Rattle.vpc_laws.proofs.rewriting.translates_source_and_port.Goals as goal

pub returns : goal.returns
returns c = nat_changes_source_and_port
