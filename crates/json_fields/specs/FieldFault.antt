-- Values that were read, or the first fault.
use Rattle.std.specs.Prelude.{ℕ, ◌≡◌, ◌+◌, ◌∷◌, List, [], Option, Some, None, Result, Ok, Err}
use Rattle.serde_json.specs.Data.{Data}
use Rattle.json_fields.specs.Paths.{at_row}
use Rattle.json_fields.specs.declared.fault.FieldFault.{FieldFault}
use Rattle.json_fields.specs.declared.fault.FieldFault.TheVariants.{WrongShape, BadText, Memory}

-- the fault that is meant was told, or want of memory
abbrev pub Tells : FieldFault → FieldFault → Type 0
Tells meant (WrongShape path) = meant ≡ WrongShape path
Tells meant (BadText path) = meant ≡ BadText path
Tells meant Memory = Unit {0}

-- what was read shows what is meant, value or fault, or memory was wanting
abbrev pub Reads : {A B : Type 0} → (A → B) → Result B FieldFault → Result A FieldFault → Type 0
Reads shows meant (Ok a) = meant ≡ Ok (shows a)
Reads shows meant (Err (WrongShape path)) = meant ≡ Err (WrongShape path)
Reads shows meant (Err (BadText path)) = meant ≡ Err (BadText path)
Reads shows meant (Err Memory) = Unit {0}

-- the fault, or what goes on from the value
abbrev pub and_then : {A B : Type 0} → Result A FieldFault → (A → Result B FieldFault) → Result B FieldFault
and_then (Ok a) f = f a
and_then (Err fault) f = Err fault

-- what the value gives, if there is one
abbrev pub if_there : {A B : Type 0} → (A → Result B FieldFault) → Option A → Result (Option B) FieldFault
if_there f None = Ok None
if_there f (Some a) = and_then (f a) (λ b. Ok (Some b))

-- the value of the kind that is wanted at the path, where there is one
abbrev pub in_shape : {A : Type 0} → List ℕ → Option A → Result A FieldFault
in_shape path None = Err (WrongShape path)
in_shape path (Some a) = Ok a

-- the value that the text or the number at the path stands for, where it stands for one
abbrev pub in_grammar : {A : Type 0} → List ℕ → Option A → Result A FieldFault
in_grammar path None = Err (BadText path)
in_grammar path (Some a) = Ok a

-- what the rows give, each with its number, in order from the number k on, or the first fault
abbrev pub each_from : {A : Type 0} → (ℕ → Data → Result A FieldFault) → ℕ → List Data → Result (List A) FieldFault
each_from read k [] = Ok []
each_from read k (row ∷ rows) =
    and_then (read k row) (λ a.
    and_then (each_from read (k + 1) rows) (λ others.
    Ok (a ∷ others)))

-- what the rows of the list of this name give, each at its path, or the first fault
abbrev pub each_row : {A : Type 0} → (Data → List ℕ → Result A FieldFault) → List ℕ → List Data → Result (List A) FieldFault
each_row read name = each_from (λ k row. read row (at_row name k)) 0
