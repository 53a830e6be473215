use Rattle.std.proofs.Common.{take}
use Rattle.std.specs.List.{AllZip}
use Rattle.security_groups.specs.Naming.{HasOwn}
use Rattle.security_groups.proofs.vpcs.own_vpcs.Given as goal

abbrev pub invariant-loop-group : goal.invariant-loop-group
invariant-loop-group l = AllZip (HasOwn l.ids) (take l.group-index l.n.groups) l.own.items
