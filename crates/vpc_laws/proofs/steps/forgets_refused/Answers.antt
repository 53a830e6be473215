use Rattle.vpc_laws.proofs.Passing.{refused_are_forgotten}
use Rattle.vpc_laws.proofs.steps.forgets_refused.Goals as goal

pub returns : goal.returns
returns c = refused_are_forgotten
