use Rattle.std.proofs.Common.{◌≡◌, ◌++◌, drop}
use Rattle.address_sets.specs.Runs.{joined_with}
use Rattle.address_sets.proofs.sets.joined_with.Given as goal

abbrev pub invariant-loop-run : goal.invariant-loop-run
invariant-loop-run l = l.joined.items ++ joined_with l.open (drop l.run-index l.rest) ≡ joined_with l.fn.first l.rest
