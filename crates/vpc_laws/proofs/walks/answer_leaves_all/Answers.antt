use Rattle.vpc_laws.proofs.Walking.{answer_leaves_all}
use Rattle.vpc_laws.proofs.walks.answer_leaves_all.Goals as goal

pub returns : goal.returns
returns c = answer_leaves_all
