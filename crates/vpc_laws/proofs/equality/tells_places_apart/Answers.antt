use Rattle.vpc_laws.proofs.Same.{places_are_told_apart}
use Rattle.vpc_laws.proofs.equality.tells_places_apart.Goals as goal

pub returns : goal.returns
returns c = places_are_told_apart
