use Rattle.std.proofs.Common.{◌++◌, take}
use Rattle.std.specs.List.Sorted.{IsPermutation}
use Rattle.ordered_cover.proofs.open.OpenBoxes.extend.Given as goal

abbrev pub invariant-loop-b : goal.invariant-loop-b
invariant-loop-b l = IsPermutation (l.initial.self ++ take l.b-index l.boxes) l.self
