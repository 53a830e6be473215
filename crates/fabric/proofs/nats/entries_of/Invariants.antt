use Rattle.std.proofs.Common.{◌≡◌, ◌++◌, drop}
use Rattle.fabric.specs.Nats.{nat_entries}
use Rattle.fabric.proofs.nats.entries_of.Given as goal

abbrev pub invariant-loop-number : goal.invariant-loop-number
invariant-loop-number l = l.entries.items ++ nat_entries l.n l.number (drop l.number l.n.nats) ≡ nat_entries l.n 0 l.n.nats
