use Rattle.std.proofs.Common.{◌++◌, ◌≡◌, drop}
use Rattle.reference_check.specs.Hosts.{owners_from}
use Rattle.reference_check.proofs.hosts.owners_of.Given as goal

abbrev pub invariant-loop-n : goal.invariant-loop-n
invariant-loop-n l = l.owners.items ++ owners_from l.n (drop l.n l.interfaces) ≡ owners_from 0 l.interfaces
