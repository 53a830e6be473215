use Rattle.std.proofs.Common.{map, take}
use Rattle.security_groups.proofs.MemberSteps.{AreAdded}
use Rattle.security_groups.proofs.members.Membership.of.Given as goal

abbrev pub invariant-loop-interface : goal.invariant-loop-interface
invariant-loop-interface l = AreAdded l.n (take l.interface-index l.n.interfaces) l.interfaces.items l.keys.items (map (λ b. b.items) l.delegated.items)
