use Rattle.vpc_laws.proofs.Accepting.{accepted_is_faultless}
use Rattle.vpc_laws.proofs.accepted.has_no_fault.Goals as goal

pub returns : goal.returns
returns c = accepted_is_faultless
