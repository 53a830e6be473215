use Rattle.vpc_laws.proofs.Growth.{answer_adds_nothing}
use Rattle.vpc_laws.proofs.steps.answer_adds_nothing.Goals as goal

pub returns : goal.returns
returns c = answer_adds_nothing
