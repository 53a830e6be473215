use Rattle.security_groups.proofs.SetLemmas.{AreSetsUntil}
use Rattle.security_groups.proofs.building.own_sets.Given as goal

abbrev pub invariant-loop-k : goal.invariant-loop-k
invariant-loop-k l = AreSetsUntil l.n l.sets.items l.k
