use Rattle.std.proofs.Common.{◌≡◌, ◌++◌, map, take}
use Rattle.listing_text.specs.Sides.{side_of}
use Rattle.listing_text.proofs.sides.add_runs.Given as goal

abbrev pub invariant-loop-run : goal.invariant-loop-run
invariant-loop-run l = l.sides.items ≡ l.initial.sides.items ++ map side_of (take l.run-index l.runs)
