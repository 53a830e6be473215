use Rattle.std.proofs.Common.{◌≡◌, All, List, drop, take}
use Rattle.std.specs.List.{flat_map}
use Rattle.address_sets.specs.Runs.{run_of}
use Rattle.vpc_model.specs.Accepted.{Claim, clash_with}
use Rattle.reference_check.specs.Claimed.{claim_of}
use Rattle.reference_check.specs.Taken.{AreTaken, IsFree}
use Rattle.reference_check.proofs.clashes.check_blocks.Given as goal

abbrev pub invariant-loop-block : goal.invariant-loop-block
invariant-loop-block l = record {
  free : All (λ b. IsFree l.taken l.v (run_of b)) (take l.block-index l.blocks);
  rest : (claims : List Claim)
      → AreTaken l.d claims l.taken
      → flat_map (λ b. clash_with claims (claim_of l.vpc (run_of b))) (drop l.block-index l.blocks) ≡ flat_map (λ b. clash_with claims (claim_of l.vpc (run_of b))) l.blocks;
}
