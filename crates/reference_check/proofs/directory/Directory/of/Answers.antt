use Rattle.std.proofs.Common.{◌∙◌, refl, subst, sym}
use Rattle.vpc_model.specs.Accepted.{first_cause}
use Rattle.reference_check.specs.Told.{IsTold}
use Rattle.reference_check.proofs.Parts.{duplicates_of_parts}
use Rattle.reference_check.proofs.directory.Directory.of.Goals as goal

pub invariant_of-result : goal.invariant_of-result
invariant_of-result c = record { numbered = c.in-Ok.ensures.ids; differ = sym (duplicates_of_parts c.args.d) ∙ c.in-Ok.ensures.told }

pub returns-in-Ok-clause-told : goal.returns-in-Ok-clause-told
returns-in-Ok-clause-told c = sym (duplicates_of_parts c.args.d) ∙ c.in-Ok.ensures.told

pub returns-in-Ok-clause-value : goal.returns-in-Ok-clause-value
returns-in-Ok-clause-value c = refl

pub returns-in-Err-clause-told : goal.returns-in-Err-clause-told
returns-in-Err-clause-told c = subst (λ causes. IsTold (first_cause causes) c.in-Err.cause) (duplicates_of_parts c.args.d) c.in-Err.ensures.told

pub returns-in-Err-clause-value : goal.returns-in-Err-clause-value
returns-in-Err-clause-value c = tt
