use Rattle.std.proofs.Common.{◌≡◌, ◌∙◌, All, Err, List, [], Option, flat_map, rules, subst, sym, ℕ}
use Rattle.vpc_base.proofs.Members.{nothing-append}
use Rattle.prefix_text.specs.Block.{Block}
use Rattle.address_sets.specs.Runs.{run_of}
use Rattle.vpc_model.specs.Accepted.{address_clashes, clash_with, first_cause}
use Rattle.vpc_model.specs.declared.refusals.Refusal.{Refusal}
use Rattle.reference_check.specs.Claimed.{alone_in, blocks_in, claim_of, run_at}
use Rattle.reference_check.specs.Taken.{IsFree}
use Rattle.reference_check.specs.Told.{IsTold, Tells}
use Rattle.reference_check.proofs.Causes.{tells_later}
use Rattle.reference_check.proofs.OwnClaims.{flat_map-claims}
use Rattle.reference_check.proofs.clashes.claim_own.Goals as goal

pub returns-in_err-check_blocks-clause-told : goal.returns-in_err-check_blocks-clause-told
returns-in_err-check_blocks-clause-told c = λ claims are.
    let vpc = c.args.vpc.now in
    let x = c.args.interface.now in
    let cause = c.in_err-check_blocks.field-0.0 in
    let e : c.from_residual-in_err-check_blocks.result ≡ Err cause = search rules in
    let none = subst (λ (xs : List (ℕ × Option ℕ)). address_clashes claims (alone_in vpc xs) ≡ []) c.as_slice.ensures (c.in_ok-check_addresses.ensures.told claims are) in
    let told = subst (λ (bs : List Block). IsTold (first_cause (flat_map (λ b. clash_with claims (claim_of vpc (run_of b))) bs)) cause) c.as_slice-2.ensures (c.in_err-check_blocks.ensures.told claims are) in
    tells_later (address_clashes claims (alone_in vpc x.addresses)) (flat_map (clash_with claims) (blocks_in vpc x.prefixes)) c.from_residual-in_err-check_blocks.result none
    (subst (Tells (flat_map (clash_with claims) (blocks_in vpc x.prefixes))) (sym e)
    (subst (λ (causes : List Refusal). IsTold (first_cause causes) cause) (flat_map-claims claims vpc x.prefixes) told))

pub take_own-requires-clause-alone : goal.take_own-requires-clause-alone
take_own-requires-clause-alone c =
    subst (All (λ (x : ℕ × Option ℕ). IsFree c.args.taken.now c.args.v (run_at x.0))) c.as_slice.ensures c.in_ok-check_addresses.ensures.free

pub take_own-requires-clause-blocks : goal.take_own-requires-clause-blocks
take_own-requires-clause-blocks c = subst (All (λ (b : Block). IsFree c.args.taken.now c.args.v (run_of b))) c.as_slice-2.ensures c.in_ok-check_blocks.ensures.free

pub returns-clause-told : goal.returns-clause-told
returns-clause-told c = λ claims are.
    let vpc = c.args.vpc.now in
    let x = c.args.interface.now in
    nothing-append (address_clashes claims (alone_in vpc x.addresses)) (flat_map (clash_with claims) (blocks_in vpc x.prefixes))
    (subst (λ (xs : List (ℕ × Option ℕ)). address_clashes claims (alone_in vpc xs) ≡ []) c.as_slice.ensures (c.in_ok-check_addresses.ensures.told claims are))
    (sym (flat_map-claims claims vpc x.prefixes)
    ∙ subst (λ (bs : List Block). flat_map (λ b. clash_with claims (claim_of vpc (run_of b))) bs ≡ []) c.as_slice-2.ensures (c.in_ok-check_blocks.ensures.told claims are))
