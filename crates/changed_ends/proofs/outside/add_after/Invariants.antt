use Rattle.std.proofs.Common.{◌≡◌, ◌++◌, filter, map, take}
use Rattle.changed_ends.specs.Asked.{far_from_after, is_new_source}
use Rattle.changed_ends.proofs.outside.add_after.Given as goal

abbrev pub invariant-loop-l : goal.invariant-loop-l
invariant-loop-l l = l.ends.items ≡ l.initial.ends.items ++ map far_from_after (filter (is_new_source l.before l.after) (take l.l-index l.sources))
