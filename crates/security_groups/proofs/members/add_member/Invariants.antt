use Rattle.std.proofs.Common.{◌≡◌, ◌++◌, map, take}
use Rattle.security_groups.specs.Members.{key_with}
use Rattle.security_groups.proofs.members.add_member.Given as goal

abbrev pub invariant-loop-group : goal.invariant-loop-group
invariant-loop-group l = l.keys.items ≡ l.initial.keys.items ++ map (key_with l.address) (take l.group-index l.groups)
