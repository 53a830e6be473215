use Rattle.vpc_laws.proofs.Adding.{walks_add_few}
use Rattle.vpc_laws.proofs.walks.adds_few.Goals as goal

pub returns : goal.returns
returns c = walks_add_few
