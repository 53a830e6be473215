use Rattle.vpc_laws.proofs.Walking.{left_connections_are_own}
use Rattle.vpc_laws.proofs.walks.remembers_own_connections.Goals as goal

pub returns : goal.returns
returns c = left_connections_are_own
