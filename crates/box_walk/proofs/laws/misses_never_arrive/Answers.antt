use Rattle.box_walk.proofs.Missed.{misses_never_arrive}
use Rattle.box_walk.proofs.laws.misses_never_arrive.Goals as goal

pub returns : goal.returns
returns c = misses_never_arrive
