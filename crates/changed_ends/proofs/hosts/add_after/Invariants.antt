use Rattle.std.proofs.Common.{◌≡◌, ◌++◌, filter, map, take}
use Rattle.changed_ends.specs.Asked.{from_after, is_new}
use Rattle.changed_ends.proofs.hosts.add_after.Given as goal

abbrev pub invariant-loop-host : goal.invariant-loop-host
invariant-loop-host l = l.ends.items ≡ l.initial.ends.items ++ map from_after (filter (is_new l.before l.after) (take l.host-index l.hosts))
