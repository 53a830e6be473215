use Rattle.vpc_laws.proofs.Beyond.{no_step_comes_in}
use Rattle.vpc_laws.proofs.outside.comes_in_at_the_start.Goals as goal

pub returns : goal.returns
returns c = no_step_comes_in
