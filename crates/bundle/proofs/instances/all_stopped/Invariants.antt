use Rattle.std.proofs.Common.{◌≡◌, ◌++◌}
use Rattle.std.specs.Vec.Iter.{into_iter_items}
use Rattle.bundle.specs.Instances.{all_stopped}
use Rattle.bundle.proofs.instances.all_stopped.Given as goal

abbrev pub invariant-loop-instances : goal.invariant-loop-instances
invariant-loop-instances l =
    l.stopped.items ++ all_stopped (into_iter_items l.instances-iterator) ≡ all_stopped l.fn.reservations.items
