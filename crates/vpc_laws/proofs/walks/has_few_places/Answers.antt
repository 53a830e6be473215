use Rattle.vpc_laws.proofs.Walking.{walk_is_short}
use Rattle.vpc_laws.proofs.walks.has_few_places.Goals as goal

pub returns : goal.returns
returns c = walk_is_short
