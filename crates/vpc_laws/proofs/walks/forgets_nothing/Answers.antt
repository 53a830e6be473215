use Rattle.vpc_laws.proofs.Walking.{walk_keeps}
use Rattle.vpc_laws.proofs.walks.forgets_nothing.Goals as goal

pub returns : goal.returns
returns c = walk_keeps
