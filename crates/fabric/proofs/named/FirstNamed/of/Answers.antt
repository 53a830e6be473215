use Rattle.std.proofs.Common.{◌∙◌, ap, bytes_eq, position}
use Rattle.fabric.specs.declared.named.Named.{Named}
use Rattle.fabric.proofs.named.FirstNamed.of.Goals as goal

pub invariant_of-result : goal.invariant_of-result
invariant_of-result c = λ id. c.in_ok-places.ensures id ∙ ap (position (λ (r : Named). bytes_eq r.id id)) c.as_slice.ensures.value
