use Rattle.vpc_laws.proofs.Accepting.{accepted_has_all_named}
use Rattle.vpc_laws.proofs.accepted.describes_what_is_named.Goals as goal

pub returns : goal.returns
returns c = accepted_has_all_named
