use Rattle.vpc_laws.proofs.Beyond.{steps_follow}
use Rattle.vpc_laws.proofs.outside.leads_from_place_to_place.Goals as goal

pub returns : goal.returns
returns c = steps_follow
