use Rattle.std.proofs.Common.{take}
use Rattle.std.specs.List.{AllZip}
use Rattle.security_groups.specs.Members.{HasBlocksOf}
use Rattle.security_groups.proofs.delegated.sets_of.Given as goal

abbrev pub invariant-loop-of_group : goal.invariant-loop-of_group
invariant-loop-of_group l = AllZip (λ b set. HasBlocksOf b.items set) (take l.of_group-index l.blocks) l.sets.items
