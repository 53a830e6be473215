use Rattle.std.proofs.Common.{subst}
use Rattle.reference_check.specs.Told.{Tells}
use Rattle.reference_check.proofs.Parts.{missing_of_parts}
use Rattle.reference_check.proofs.references.check_references.Goals as goal

pub returns : goal.returns
returns c = subst (λ causes. Tells causes c.check_parts.result) (missing_of_parts c.args.rows.now) c.check_parts.ensures
