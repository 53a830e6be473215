use Rattle.vpc_laws.proofs.Same.{headers_are_told_apart}
use Rattle.vpc_laws.proofs.equality.tells_headers_apart.Goals as goal

pub returns : goal.returns
returns c = headers_are_told_apart
