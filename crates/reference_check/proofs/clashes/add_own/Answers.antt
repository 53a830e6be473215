use Rattle.std.proofs.Common.{◌++◌, ◌≡◌, [], Err, rules, subst, sym}
use Rattle.vpc_model.specs.Accepted.{clash_with, first_cause}
use Rattle.reference_check.specs.Claimed.{alone, claim_of}
use Rattle.reference_check.specs.Told.{IsTold, Tells}
use Rattle.reference_check.proofs.Adding.{clash-neither, told-before, told-behind}
use Rattle.reference_check.proofs.clashes.add_own.Goals as goal

pub returns-in_err-check_run-clause-told : goal.returns-in_err-check_run-clause-told
returns-in_err-check_run-clause-told c = λ claims before are own.
    let vpc = c.args.vpc.now in
    let cause = c.in_err-check_run.field-0.0 in
    let e : c.from_residual.result ≡ Err cause = search rules in
    subst (Tells (clash_with (claims ++ before) (alone (vpc, c.args.address)))) (sym e)
    (told-before claims before (vpc, c.args.address) cause
    (subst (λ run. IsTold (first_cause (clash_with claims (claim_of vpc run))) cause) c.run_at-run.ensures (c.in_err-check_run.ensures.told claims are)))

pub returns-in_err-check_run-2-clause-told : goal.returns-in_err-check_run-2-clause-told
returns-in_err-check_run-2-clause-told c = λ claims before are own.
    let vpc = c.args.vpc.now in
    let cause = c.in_err-check_run-2.field-0.0 in
    let e : c.from_residual-in_err-check_run-2.result ≡ Err cause = search rules in
    subst (Tells (clash_with (claims ++ before) (alone (vpc, c.args.address)))) (sym e)
    (told-behind claims before (vpc, c.args.address) cause
    (subst (λ run. IsTold (first_cause (clash_with before (claim_of vpc run))) cause) c.run_at-run.ensures (c.in_err-check_run-2.ensures.told before own)))

pub returns-clause-told : goal.returns-clause-told
returns-clause-told c = λ claims before are own.
    let vpc = c.args.vpc.now in
    clash-neither claims before (vpc, c.args.address)
    (subst (λ run. clash_with claims (claim_of vpc run) ≡ []) c.run_at-run.ensures (c.in_ok-check_run.ensures.told claims are))
    (subst (λ run. clash_with before (claim_of vpc run) ≡ []) c.run_at-run.ensures (c.in_ok-check_run-2.ensures.told before own))
