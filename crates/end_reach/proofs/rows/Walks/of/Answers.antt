use Rattle.std.proofs.Common.{ap}
use Rattle.box_walk.specs.Asking.{Asking}
use Rattle.box_walk.specs.Open.{Starting}
use Rattle.end_reach.proofs.rows.Walks.of.Goals as goal

pub returns : goal.returns
returns g c = record { with_goal = ap (λ (a : Asking). a.network) c.of.ensures; without = ap (λ (s : Starting). s.network) c.of-2.ensures }
