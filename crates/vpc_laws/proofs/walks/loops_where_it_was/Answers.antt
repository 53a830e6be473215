use Rattle.vpc_laws.proofs.Stepping.{loops_are_returns}
use Rattle.vpc_laws.proofs.walks.loops_where_it_was.Goals as goal

pub returns : goal.returns
returns c = loops_are_returns
