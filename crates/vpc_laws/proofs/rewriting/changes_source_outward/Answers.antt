use Rattle.vpc_laws.proofs.Gateways.{outward_changes_source}
use Rattle.vpc_laws.proofs.rewriting.changes_source_outward.Goals as goal

pub returns : goal.returns
returns c = outward_changes_source
