use Rattle.vpc_laws.proofs.Replies.{roomy_gateway_translates}
use Rattle.vpc_laws.proofs.nats.translates_while_there_is_room.Goals as goal

pub returns : goal.returns
returns c = roomy_gateway_translates
