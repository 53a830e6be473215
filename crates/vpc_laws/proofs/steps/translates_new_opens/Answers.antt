use Rattle.vpc_laws.proofs.Passing.{new_opens_are_translated}
use Rattle.vpc_laws.proofs.steps.translates_new_opens.Goals as goal

pub returns : goal.returns
returns c = new_opens_are_translated
