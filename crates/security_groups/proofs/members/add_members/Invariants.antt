use Rattle.std.proofs.Common.{◌≡◌, ◌++◌, take}
use Rattle.security_groups.specs.Members.{AreFit, keys_with}
use Rattle.security_groups.proofs.members.add_members.Given as goal

abbrev pub invariant-loop-address : goal.invariant-loop-address
invariant-loop-address l = (l.keys.items ≡ l.initial.keys.items ++ keys_with l.groups (take l.address-index l.addresses)) × AreFit (take l.address-index l.addresses)
