use Rattle.std.proofs.Common.{refl}
use Rattle.vpc_examples.proofs.refusals.ends_long_walks.Goals as goal

pub returns : goal.returns
returns c = (refl, refl)
