use Rattle.vpc_laws.proofs.Beyond.{no_walk_goes_there}
use Rattle.vpc_laws.proofs.outside.walks_nowhere_without_rows.Goals as goal

pub returns : goal.returns
returns c = no_walk_goes_there
