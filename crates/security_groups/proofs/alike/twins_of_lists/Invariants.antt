use Rattle.security_groups.specs.Alike.{AreTwins, IsSameList}
use Rattle.security_groups.proofs.alike.twins_of_lists.Given as goal

abbrev pub invariant-loop-list : goal.invariant-loop-list
invariant-loop-list l = AreTwins (IsSameList l.one l.other) l.twins.items
