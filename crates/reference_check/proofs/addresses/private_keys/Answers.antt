use Rattle.std.proofs.Common.{◌∙◌, subst, sym}
use Rattle.reference_check.specs.Told.{Tells}
use Rattle.reference_check.proofs.Alone.{assigned-alone}
use Rattle.reference_check.proofs.addresses.private_keys.Goals as goal

pub returns-else-has_prefixes-clause-told : goal.returns-else-has_prefixes-clause-told
returns-else-has_prefixes-clause-told c =
    subst (λ causes. Tells causes c.assigned_keys.result) (sym (assigned-alone c.args.d.now (sym c.has_prefixes.ensures ∙ c.if-has_prefixes.false))) c.assigned_keys.ensures.told
