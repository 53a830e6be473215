use Rattle.std.proofs.Common.{take}
use Rattle.reference_check.specs.Blocks.{AreBlocks}
use Rattle.reference_check.proofs.delegated.all_blocks.Given as goal

abbrev pub invariant-loop-number : goal.invariant-loop-number
invariant-loop-number l = AreBlocks l.d (take l.number l.d.interfaces) l.runs.items
