use Rattle.vpc_laws.proofs.Flow.{header_stays}
use Rattle.vpc_laws.proofs.steps.rewrites_at_gateways.Goals as goal

pub returns : goal.returns
returns c = header_stays
