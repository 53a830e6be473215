use Rattle.vpc_laws.proofs.Growth.{step_keeps}
use Rattle.vpc_laws.proofs.steps.keeps_what_was_there.Goals as goal

pub returns : goal.returns
returns c = step_keeps
