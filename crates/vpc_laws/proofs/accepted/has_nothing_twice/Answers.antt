use Rattle.vpc_laws.proofs.Accepting.{accepted_has_nothing_twice}
use Rattle.vpc_laws.proofs.accepted.has_nothing_twice.Goals as goal

pub returns : goal.returns
returns c = accepted_has_nothing_twice
