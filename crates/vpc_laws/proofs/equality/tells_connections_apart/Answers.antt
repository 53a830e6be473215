use Rattle.vpc_laws.proofs.Same.{connections_are_told_apart}
use Rattle.vpc_laws.proofs.equality.tells_connections_apart.Goals as goal

pub returns : goal.returns
returns c = connections_are_told_apart
