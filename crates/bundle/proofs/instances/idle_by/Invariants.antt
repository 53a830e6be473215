use Rattle.std.proofs.Common.{◌≡◌, ◌++◌, map}
use Rattle.std.specs.Vec.Iter.{into_iter_items}
use Rattle.bundle.specs.Instances.{idle_by}
use Rattle.bundle.proofs.instances.idle_by.Given as goal

abbrev pub invariant-loop-interface : goal.invariant-loop-interface
invariant-loop-interface l =
    l.all.items ++ map (idle_by l.fn.stopped) (into_iter_items l.interface-iterator) ≡ map (idle_by l.fn.stopped) l.fn.interfaces.items
