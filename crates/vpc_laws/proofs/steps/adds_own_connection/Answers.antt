use Rattle.vpc_laws.proofs.Growth.{step_adds_own}
use Rattle.vpc_laws.proofs.steps.adds_own_connection.Goals as goal

pub returns : goal.returns
returns c = step_adds_own
