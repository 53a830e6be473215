use Rattle.vpc_laws.proofs.Beyond.{opens_stay_inside}
use Rattle.vpc_laws.proofs.outside.stays_inside.Goals as goal

pub returns : goal.returns
returns c = opens_stay_inside
