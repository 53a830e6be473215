use Rattle.std.proofs.Common.{◌≡◌, ◌++◌, All, drop, take}
use Rattle.fabric.specs.Hosts.{HasFit, hosts_from}
use Rattle.fabric.proofs.hosts.entries_of.Given as goal

abbrev pub invariant-loop-number : goal.invariant-loop-number
invariant-loop-number l =
    (l.entries.items ++ hosts_from l.n l.number (drop l.number l.n.interfaces) ≡ hosts_from l.n 0 l.n.interfaces) × All HasFit (take l.number l.n.interfaces)
