use Rattle.std.proofs.Common.{◌++◌, ◌≡◌, List, drop, map, take, true, ℕ}
use Rattle.number_tables.specs.Keys.{key_of}
use Rattle.address_sets.specs.Runs.{is_in}
use Rattle.vpc_model.specs.Accepted.{Claim}
use Rattle.reference_check.specs.Claimed.{claim_of}
use Rattle.reference_check.specs.Taken.{AreTaken, IsTaken}
use Rattle.reference_check.proofs.clashes.take_runs.Given as goal

abbrev pub invariant-loop-run : goal.invariant-loop-run
invariant-loop-run l = record {
  free : (a : ℕ) → is_in a (drop l.run-index l.runs) ≡ true → IsTaken l.taken (key_of l.v a) → ⊥;
  added : (claims : List Claim) → AreTaken l.d claims l.fn.taken → AreTaken l.d (claims ++ map (claim_of l.vpc) (take l.run-index l.runs)) l.taken;
}
