use Rattle.std.proofs.Common.{◌≡◌, ◌++◌, map, take}
use Rattle.changed_ends.specs.Asked.{from_before}
use Rattle.changed_ends.proofs.hosts.add_before.Given as goal

abbrev pub invariant-loop-host : goal.invariant-loop-host
invariant-loop-host l = l.ends.items ≡ l.initial.ends.items ++ map (from_before l.before l.after) (take l.host-index l.hosts)
