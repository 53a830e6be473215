use Rattle.std.proofs.Common.{◌≡◌, ◌++◌, filter, map, take}
use Rattle.changed_ends.specs.Asked.{far_from_before, is_free}
use Rattle.changed_ends.proofs.outside.add_before.Given as goal

abbrev pub invariant-loop-k : goal.invariant-loop-k
invariant-loop-k l = l.ends.items ≡ l.initial.ends.items ++ map (far_from_before l.before l.after) (filter (is_free l.before l.after) (take l.k-index l.sources))
