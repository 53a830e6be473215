use Rattle.box_walk.proofs.Homes.{more_homes_let_more_through}
use Rattle.box_walk.proofs.journeys.more_homes_let_more_through.Goals as goal

pub returns : goal.returns
returns c = more_homes_let_more_through
