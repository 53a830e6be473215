use Rattle.security_groups.specs.Alike.{AreTwins, LetsInSame}
use Rattle.security_groups.proofs.alike.twins_of_groups.Given as goal

abbrev pub invariant-loop-group : goal.invariant-loop-group
invariant-loop-group l = AreTwins (LetsInSame l.names.one.now l.names.other.now) l.twins.items
