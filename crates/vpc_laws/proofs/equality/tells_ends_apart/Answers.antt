use Rattle.vpc_laws.proofs.Same.{ends_are_told_apart}
use Rattle.vpc_laws.proofs.equality.tells_ends_apart.Goals as goal

pub returns : goal.returns
returns c = ends_are_told_apart
