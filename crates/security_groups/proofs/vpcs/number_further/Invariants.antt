use Rattle.std.proofs.Common.{take}
use Rattle.std.specs.List.{All}
use Rattle.security_groups.specs.Ids.{KeepsNumbers}
use Rattle.security_groups.specs.Naming.{HasPlace}
use Rattle.security_groups.proofs.vpcs.number_further.Given as goal

abbrev pub invariant-loop-further : goal.invariant-loop-further
invariant-loop-further l = KeepsNumbers l.initial.ids l.ids × All (HasPlace l.ids) (take l.further-index l.n.scope.vpcs)
