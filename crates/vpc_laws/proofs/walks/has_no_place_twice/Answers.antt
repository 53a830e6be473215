use Rattle.vpc_laws.proofs.Walking.{no_place_twice}
use Rattle.vpc_laws.proofs.walks.has_no_place_twice.Goals as goal

pub returns : goal.returns
returns c = no_place_twice
