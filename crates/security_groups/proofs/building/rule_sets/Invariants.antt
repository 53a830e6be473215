use Rattle.security_groups.proofs.SetLemmas.{AreSetsTo}
use Rattle.security_groups.proofs.building.rule_sets.Given as goal

abbrev pub invariant-loop-k : goal.invariant-loop-k
invariant-loop-k l = AreSetsTo l.n l.named.naming.vpcs.ids l.further l.sets.items l.k
