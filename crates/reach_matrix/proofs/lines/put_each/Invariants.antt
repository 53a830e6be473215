use Rattle.std.proofs.Common.{◌≡◌, ◌++◌, take}
use Rattle.std.specs.List.{flat_map}
use Rattle.reach_matrix.specs.Matrix.{range_word}
use Rattle.reach_matrix.proofs.lines.put_each.Given as goal

abbrev pub invariant-loop-range : goal.invariant-loop-range
invariant-loop-range l = l.out.items ≡ l.initial.out.items ++ flat_map range_word (take l.range-index l.ranges)
