use Rattle.vpc_laws.proofs.Beyond.{no_step_goes_beyond}
use Rattle.vpc_laws.proofs.outside.arrives_where_it_goes_out.Goals as goal

pub returns : goal.returns
returns c = no_step_goes_beyond
