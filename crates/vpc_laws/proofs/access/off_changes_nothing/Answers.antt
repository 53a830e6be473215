use Rattle.vpc_laws.proofs.Modes.{walk_of-off}
use Rattle.vpc_laws.proofs.access.off_changes_nothing.Goals as goal

pub returns : goal.returns
returns c = λ d appliances label m off. walk_of-off d appliances label off m
