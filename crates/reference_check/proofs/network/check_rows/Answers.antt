use Rattle.std.proofs.Common.{◌++◌, ◌≡◌, Err, rules, subst}
use Rattle.vpc_model.specs.Accepted.{too_many_rows}
use Rattle.vpc_model.specs.declared.rows.Description.{Description}
use Rattle.reference_check.specs.Causes.{causes_of_names, causes_of_subnets}
use Rattle.reference_check.specs.Told.{Tells}
use Rattle.reference_check.proofs.Causes.{tells_first, tells_later}
use Rattle.reference_check.proofs.network.check_rows.Goals as goal

pub returns-in_err-check_names-clause-told : goal.returns-in_err-check_names-clause-told
returns-in_err-check_names-clause-told c =
    let d = c.args.rows.now in
    let e : c.from_residual.result ≡ Err c.in_err-check_names.field-0.0 = search rules in
    tells_first (causes_of_names d) (causes_of_subnets d ++ too_many_rows d) _ _ e c.in_err-check_names.ensures.told

pub returns-in_err-check_subnets-clause-told : goal.returns-in_err-check_subnets-clause-told
returns-in_err-check_subnets-clause-told c =
    let d = c.args.rows.now in
    let e : c.from_residual-in_err-check_subnets.result ≡ Err c.in_err-check_subnets.field-0.0 = search rules in
    tells_later (causes_of_names d) (causes_of_subnets d ++ too_many_rows d) _ c.in_ok-check_names.ensures.told
    (tells_first (causes_of_subnets d) (too_many_rows d) _ _ e c.in_err-check_subnets.ensures.told)

pub returns-clause-told : goal.returns-clause-told
returns-clause-told c =
    let d = c.args.rows.now in
    let long = subst (λ (x : Description). Tells (too_many_rows x) c.check_lengths.result) c.description.ensures c.check_lengths.ensures in
    tells_later (causes_of_names d) (causes_of_subnets d ++ too_many_rows d) _ c.in_ok-check_names.ensures.told
    (tells_later (causes_of_subnets d) (too_many_rows d) _ c.in_ok-check_subnets.ensures.told long)
