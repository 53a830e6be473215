use Rattle.vpc_laws.proofs.Stepping.{walks_are_of_steps}
use Rattle.vpc_laws.proofs.walks.goes_by_steps.Goals as goal

pub returns : goal.returns
returns c = walks_are_of_steps
