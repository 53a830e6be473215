use Rattle.security_groups.specs.Alike.{AreTwins, HasSameMembers}
use Rattle.security_groups.proofs.alike.twins_of_members.Given as goal

abbrev pub invariant-loop-group : goal.invariant-loop-group
invariant-loop-group l = AreTwins (HasSameMembers l.one l.other) l.twins.items
