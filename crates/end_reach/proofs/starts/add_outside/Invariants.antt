use Rattle.std.proofs.Common.{◌≡◌, ◌++◌, filter, map, take}
use Rattle.vpc_model.specs.declared.places.End.TheVariants as ends
use Rattle.end_reach.specs.Asked.{is_far_start}
use Rattle.end_reach.proofs.starts.add_outside.Given as goal

abbrev pub invariant-loop-far : goal.invariant-loop-far
invariant-loop-far l = l.starts.items ≡ l.initial.starts.items ++ map ends.Far (filter (is_far_start l.goal) (take l.far-index l.outside))
