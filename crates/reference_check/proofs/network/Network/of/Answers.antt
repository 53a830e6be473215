use Rattle.std.proofs.Common.{◌≡◌, Err, [], rules, subst, sym}
use Rattle.vpc_model.specs.Accepted.{duplicate_ids}
use Rattle.reference_check.specs.Causes.{causes_of_rows}
use Rattle.reference_check.specs.Told.{Tells}
use Rattle.reference_check.proofs.Accepted.{accepted_is_counted, causes_of_parts, no_causes, told_of_rows}
use Rattle.reference_check.proofs.Causes.{tells_first}
use Rattle.reference_check.proofs.network.Network.of.Goals as goal

pub returns-in_err-rows-clause-told : goal.returns-in_err-rows-clause-told
returns-in_err-rows-clause-told c =
    let d = c.args.d in
    let e : c.from_residual.result ≡ Err c.in_err-rows.field-0.0 = search rules in
    subst (λ causes. Tells causes c.from_residual.result) (causes_of_parts d)
    (tells_first (duplicate_ids d) (causes_of_rows d) _ _ e c.in_err-rows.ensures.told)

pub invariant_of-result : goal.invariant_of-result
invariant_of-result c =
    let differ = subst (λ d. duplicate_ids d ≡ []) (sym c.in_ok-rows.ensures.value) c.in_ok-rows.ensures.told in
    let accepted = no_causes c.in_ok-rows.rows differ c.in-Ok.ensures.told in
    record {
      accepted = accepted;
      counted = accepted_is_counted c.in_ok-rows.rows accepted;
      hosts = c.in-Ok.ensures.hosts;
      attached = c.in-Ok.ensures.attached;
    }

pub returns-in-Ok-clause-told : goal.returns-in-Ok-clause-told
returns-in-Ok-clause-told c =
    no_causes c.args.d c.in_ok-rows.ensures.told
    (subst (λ d. causes_of_rows d ≡ []) c.in_ok-rows.ensures.value c.in-Ok.ensures.told)

pub returns-in-Err-clause-told : goal.returns-in-Err-clause-told
returns-in-Err-clause-told c =
    told_of_rows c.in_ok-rows.rows c.args.d c.in-Err.cause c.in_ok-rows.ensures.value c.in_ok-rows.ensures.told c.in-Err.ensures.told
