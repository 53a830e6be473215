use Rattle.std.proofs.Common.{◌≡◌, length, replicate, take}
use Rattle.vpc_model.specs.Lookup.{is_listed}
use Rattle.reference_check.specs.declared.claims.Claim.TheVariants.{Unclaimed}
use Rattle.reference_check.specs.Claims.{claims_by}
use Rattle.reference_check.proofs.claims.claim_all.Given as goal

abbrev pub invariant-loop-r : goal.invariant-loop-r
invariant-loop-r g l =
    l.fn.claims ≡ replicate (length l.targets) Unclaimed → l.claims ≡ claims_by (λ t row. is_listed t (g.R.Claimant.claimed row)) l.targets (take l.r l.rows)
