use Rattle.std.proofs.Common.{◌≡◌, ◌++◌, map, take}
use Rattle.listing_text.specs.Sides.{sides_between}
use Rattle.listing_text.proofs.sides.add_boxes.Given as goal

abbrev pub invariant-loop-dst : goal.invariant-loop-dst
invariant-loop-dst l = l.boxes.items ≡ l.initial.boxes.items ++ map (sides_between l.pairs l.src) (take l.dst-index l.targets)
