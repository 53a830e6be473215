use Rattle.vpc_laws.proofs.Growth.{connections_change_at_interfaces}
use Rattle.vpc_laws.proofs.steps.changes_connections_at_interfaces.Goals as goal

pub returns : goal.returns
returns c = connections_change_at_interfaces
