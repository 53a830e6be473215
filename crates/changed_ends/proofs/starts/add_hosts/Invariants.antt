use Rattle.std.proofs.Common.{◌≡◌, ◌++◌, filter, take}
use Rattle.changed_ends.specs.Asked.{is_start}
use Rattle.changed_ends.proofs.starts.add_hosts.Given as goal

abbrev pub invariant-loop-host : goal.invariant-loop-host
invariant-loop-host l = l.starts.items ≡ l.initial.starts.items ++ filter (is_start l.before l.after l.src l.goal) (take l.host-index l.hosts)
