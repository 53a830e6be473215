use Rattle.std.proofs.Common.{take}
use Rattle.std.specs.List.{AllZip}
use Rattle.security_groups.specs.Sets.{AreSetKeys, IsSetFor, KeepsSets}
use Rattle.security_groups.proofs.sets.sets_of.Given as goal

abbrev pub invariant-loop-group : goal.invariant-loop-group
invariant-loop-group l = record {
  kept : KeepsSets l.initial.further l.further;
  keys : AreSetKeys l.n l.vpcs.ids l.further;
  sets : AllZip (IsSetFor l.n l.vpcs.ids l.further l.interface) (take l.group-index l.groups) l.sets.items;
}
