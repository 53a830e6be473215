-- Texts that rows tell their state by.
use Rattle.std.specs.Prelude.{ℕ, Bool, List, bytes_eq, Result, Ok}
use Rattle.serde_json.specs.Data.{Data}
use Rattle.json_fields.specs.FieldFault.{and_then}
use Rattle.json_fields.specs.Fields.{needed, text_of}
use Rattle.json_fields.specs.declared.fault.FieldFault.{FieldFault}

-- whether the member is this text: it must be there
abbrev pub text_is : List ℕ → Data → List ℕ → List ℕ → Result Bool FieldFault
text_is text row path field = and_then (needed text_of row path field) (λ told. Ok (bytes_eq told text))
