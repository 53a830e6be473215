use Rattle.box_walk.proofs.MissedRequests.{nothing_stops_through}
use Rattle.box_walk.proofs.laws.nothing_stops_through.Goals as goal

pub returns : goal.returns
returns c = nothing_stops_through
