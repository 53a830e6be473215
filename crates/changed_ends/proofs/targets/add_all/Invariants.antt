use Rattle.std.proofs.Common.{◌≡◌, ◌++◌, take}
use Rattle.changed_ends.proofs.targets.add_all.Given as goal

abbrev pub invariant-loop-block : goal.invariant-loop-block
invariant-loop-block l = l.blocks.items ≡ l.initial.blocks.items ++ take l.block-index l.others
