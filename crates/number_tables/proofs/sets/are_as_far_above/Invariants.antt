use Rattle.std.proofs.Common.{take}
use Rattle.number_tables.specs.Above.{AreAsFarAbove}
use Rattle.number_tables.proofs.sets.are_as_far_above.Given as goal

abbrev pub invariant-loop-k : goal.invariant-loop-k
invariant-loop-k l = AreAsFarAbove l.first (take l.k l.numbers) l.other_first (take l.k l.others)
