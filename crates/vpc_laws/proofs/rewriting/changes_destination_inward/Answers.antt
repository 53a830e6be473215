use Rattle.vpc_laws.proofs.Gateways.{inward_changes_destination}
use Rattle.vpc_laws.proofs.rewriting.changes_destination_inward.Goals as goal

pub returns : goal.returns
returns c = inward_changes_destination
