use Rattle.std.proofs.Common.{take}
use Rattle.std.specs.List.{AllZip}
use Rattle.security_groups.specs.Members.{groups_with}
use Rattle.security_groups.specs.Sets.{AreSetKeys, IsSetFor}
use Rattle.security_groups.proofs.sets.sets_of_each.Given as goal

abbrev pub invariant-loop-k : goal.invariant-loop-k
invariant-loop-k l = record {
  keys : AreSetKeys l.n l.vpcs.ids l.further;
  sets : AllZip (λ e sets. AllZip (IsSetFor l.n l.vpcs.ids l.further e) (groups_with l.n e) sets) (take l.k l.n.interfaces) l.all.items;
}
