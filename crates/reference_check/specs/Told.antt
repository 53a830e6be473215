-- What is told of the causes for which a description is refused.
use Rattle.std.specs.Prelude.{◌≡◌, [], Err, List, Ok, Option, Result, Some}
use Rattle.vpc_model.specs.declared.refusals.Refusal.{Refusal}
use Rattle.vpc_model.specs.Accepted.{first_cause}
use Rattle.vpc_model.specs.declared.refusals.Refusal.TheVariants as refusals

-- the first cause is told; nothing is said where memory is refused
abbrev pub IsTold : Option Refusal → Refusal → Type 0
IsTold first refusals.Memory = Unit {0}
IsTold first cause = first ≡ Some cause

-- there is no cause, or the first is told
abbrev pub Tells : {A : Type 0} → List Refusal → Result A Refusal → Type 0
Tells causes (Ok value) = causes ≡ []
Tells causes (Err cause) = IsTold (first_cause causes) cause
