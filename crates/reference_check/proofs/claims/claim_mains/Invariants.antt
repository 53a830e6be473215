use Rattle.std.proofs.Common.{◌≡◌, length, replicate, take}
use Rattle.vpc_model.specs.Accepted.{is_main_of}
use Rattle.reference_check.specs.declared.claims.Claim.TheVariants.{Unclaimed}
use Rattle.reference_check.specs.Claims.{claims_by}
use Rattle.reference_check.proofs.claims.claim_mains.Given as goal

abbrev pub invariant-loop-r : goal.invariant-loop-r
invariant-loop-r l =
    l.fn.claims ≡ replicate (length l.vpcs) Unclaimed → l.claims ≡ claims_by is_main_of l.vpcs (take l.r l.tables)
