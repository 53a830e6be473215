use Rattle.std.proofs.Common.{◌++◌, ◌≡◌, Err, List, drop, false, filter, rules, subst}
use Rattle.vpc_model.specs.Accepted.{first_cause, is_long_far, too_long}
use Rattle.vpc_model.specs.declared.refusals.ListName.TheVariants as named
use Rattle.vpc_model.specs.declared.rows.Far.{Far}
use Rattle.reference_check.specs.LongLists.{told_by_list}
use Rattle.reference_check.specs.Told.{IsTold}
use Rattle.reference_check.proofs.Causes.{tells_first}
use Rattle.reference_check.proofs.lengths.check_outside.Goals as goal

pub returns-in_err-check_count : goal.returns-in_err-check_count
returns-in_err-check_count c =
    let d = c.args.d.now in
    let e : c.from_residual.result ≡ Err c.in_err-check_count.field-0.0 = search rules in
    tells_first (told_by_list (drop 100000 d.fars)) (told_by_list (filter (λ f. is_long_far f.kind) d.fars) ++ too_long named.VpcEndpoints (λ e. false) d.firewalls) _ _ e
    (subst (λ (fars : List Far). IsTold (first_cause (told_by_list (drop 100000 fars))) c.in_err-check_count.field-0.0) c.as_slice.ensures c.in_err-check_count.ensures)
