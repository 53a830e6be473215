use Rattle.std.proofs.Common.{◌<◌, arith, length, subst}
use Rattle.std.specs.List.{flat_map}
use Rattle.std.proofs.lemmas.Result.{err_from_is_err_and}
use Rattle.vpc_model.specs.Accepted.{first_cause, wanted}
use Rattle.vpc_model.specs.Lookup.{has_list}
use Rattle.reference_check.specs.Told.{IsTold}
use Rattle.reference_check.specs.Missing.{missing_of_rule}
use Rattle.reference_check.proofs.Told.{told_row}
use Rattle.reference_check.proofs.references.check_rules.Goals as goal

pub returns-in_err-want_all : goal.returns-in_err-want_all
returns-in_err-want_all c =
    let p = err_from_is_err_and c.from_residual.result c.from_residual.ensures.1 in
    let within : c.loop-rule.rule-index < length c.args.rules.now = omega arith in
    rw (p.1, p.2)
    (told_row (missing_of_rule c.args.rows.now c.args.from.now) c.args.rules.now _ _ _ _ within c.rule-item.is c.loop-rule.invariant
    (subst (λ ids. IsTold (first_cause (flat_map (λ x. wanted (has_list c.args.rows.now x) c.args.from.now x) ids)) c.in_err-want_all.field-0.0) c.as_slice.ensures c.in_err-want_all.ensures))
