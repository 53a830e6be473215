use Rattle.std.proofs.Common.{◌≡◌, ◌++◌}
use Rattle.std.specs.List.{flat_map}
use Rattle.std.specs.Vec.Iter.{into_iter_items}
use Rattle.bundle.proofs.instances.stopped_among.Given as goal

abbrev pub invariant-loop-interfaces : goal.invariant-loop-interfaces
invariant-loop-interfaces l =
    l.stopped.items ++ flat_map (λ ids. ids) (into_iter_items l.interfaces-iterator) ≡ flat_map (λ ids. ids) l.fn.instances
