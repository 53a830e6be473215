use Rattle.vpc_laws.proofs.Beyond.{no_step_goes_there}
use Rattle.vpc_laws.proofs.outside.steps_nowhere_without_rows.Goals as goal

pub returns : goal.returns
returns c = no_step_goes_there
