use Rattle.std.proofs.Common.{◌++◌, ◌≡◌, replicate}
use Rattle.reference_check.proofs.hosts.add_owner.Given as goal

abbrev pub invariant-loop-address : goal.invariant-loop-address
invariant-loop-address l = l.owners.items ≡ l.fn.owners.items ++ replicate l._address-index l.number
