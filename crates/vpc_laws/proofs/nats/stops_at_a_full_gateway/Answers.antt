use Rattle.vpc_laws.proofs.Replies.{full_gateway_stops}
use Rattle.vpc_laws.proofs.nats.stops_at_a_full_gateway.Goals as goal

pub returns : goal.returns
returns c = full_gateway_stops
