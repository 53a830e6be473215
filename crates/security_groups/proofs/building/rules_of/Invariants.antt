use Rattle.std.proofs.Common.{[], slice_index_or, take}
use Rattle.security_groups.specs.Resolved.{AreRulesOf}
use Rattle.security_groups.proofs.building.rules_of.Given as goal

abbrev pub invariant-loop-k : goal.invariant-loop-k
invariant-loop-k l = AreRulesOf l.n l.dir (slice_index_or l.named.naming.vpcs.ids l.vpc []) 1 (take l.k l.permissions) l.rules.items
