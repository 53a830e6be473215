-- The first value, or else the second.
use Rattle.std.proofs.Common.{◌≡◌, None, Option, Some, refl}
use Rattle.vpc_model.specs.Choice.{or_else}

pub or_else-none : {X : Type 0} (o : Option X) → or_else o None ≡ o
or_else-none None = refl
or_else-none (Some x) = refl
