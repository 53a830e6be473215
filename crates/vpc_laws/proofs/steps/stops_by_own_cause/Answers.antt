use Rattle.vpc_laws.proofs.Flow.{steps_stop_themselves}
use Rattle.vpc_laws.proofs.steps.stops_by_own_cause.Goals as goal

pub returns : goal.returns
returns c = steps_stop_themselves
