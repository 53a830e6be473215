use Rattle.vpc_laws.proofs.Flow.{open_keeps_flow}
use Rattle.vpc_laws.proofs.steps.open_keeps_protocol_and_q.Goals as goal

pub returns : goal.returns
returns c = open_keeps_flow
