use Rattle.vpc_laws.proofs.Gateways.{walk_keeps_flow}
use Rattle.vpc_laws.proofs.rewriting.keeps_protocol_and_q.Goals as goal

pub returns : goal.returns
returns c = walk_keeps_flow
