-- Faults of what was read.
use Rattle.std.proofs.Common.{◌≡◌, ℕ, List, Option, None, Err, ap, ◌∙◌}
use Rattle.json_fields.specs.FieldFault.{Reads, Tells, in_grammar}
use Rattle.json_fields.specs.declared.fault.FieldFault.{FieldFault}
use Rattle.json_fields.specs.declared.fault.FieldFault.TheVariants.{BadText, WrongShape, Memory}

-- a text that stands for nothing was told
pub bad_text_told : {A : Type 0} (path : List ℕ) (told : Option A) (fault : FieldFault) → told ≡ None → Tells (BadText path) fault
    → Reads {A = A} (λ x. x) (in_grammar path told) (Err fault)
bad_text_told path told (WrongShape at) none tells = ap (in_grammar path) none ∙ ap Err tells
bad_text_told path told (BadText at) none tells = ap (in_grammar path) none ∙ ap Err tells
bad_text_told path told Memory none tells = tt
