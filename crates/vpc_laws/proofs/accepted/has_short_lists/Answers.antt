use Rattle.vpc_laws.proofs.Lengths.{accepted_has_short_lists}
use Rattle.vpc_laws.proofs.accepted.has_short_lists.Goals as goal

pub returns : goal.returns
returns c = accepted_has_short_lists
