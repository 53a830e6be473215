use Rattle.vpc_laws.proofs.Hosting.{hosts_are_assigned_or_delegated}
use Rattle.vpc_laws.proofs.accepted.hosts_by_address.Goals as goal

pub returns : goal.returns
returns c = hosts_are_assigned_or_delegated
