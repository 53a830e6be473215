use Rattle.vpc_laws.proofs.Stepping.{far_walks_are_long}
use Rattle.vpc_laws.proofs.walks.ends_after_64_places.Goals as goal

pub returns : goal.returns
returns c = far_walks_are_long
