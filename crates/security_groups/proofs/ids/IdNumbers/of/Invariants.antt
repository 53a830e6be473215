use Rattle.std.proofs.Common.{take}
use Rattle.security_groups.specs.Ids.{HasIds}
use Rattle.security_groups.proofs.ids.IdNumbers.of.Given as goal

abbrev pub invariant-loop-id : goal.invariant-loop-id
invariant-loop-id l = HasIds (take l.id-index l.ids) l.numbers
