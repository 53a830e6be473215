use Rattle.std.proofs.Common.{ap}
use Rattle.box_walk.specs.Asking.{Asking}
use Rattle.reach_matrix.proofs.pairs.probe_of.Goals as goal

pub returns : goal.returns
returns g c = ap (λ (a : Asking). a.network) c.of.ensures
