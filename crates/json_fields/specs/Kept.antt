-- Rows of which some are dropped.
use Rattle.std.specs.Prelude.{ℕ, ◌∷◌, List, [], Option, Some, None, Result, Ok, Bool, not, bytes_eq, filter}
use Rattle.serde_json.specs.Data.{Data}
use Rattle.json_fields.specs.Paths.{at_member}
use Rattle.json_fields.specs.FieldFault.{and_then, each_from, each_row}
use Rattle.json_fields.specs.Fields.{list_of}
use Rattle.json_fields.specs.Bundle.{rows_of}
use Rattle.json_fields.specs.declared.fault.FieldFault.{FieldFault}

-- the values that are there, in order
abbrev pub those_there : {A : Type 0} → List (Option A) → List A
those_there [] = []
those_there (None ∷ others) = those_there others
those_there (Some a ∷ others) = a ∷ those_there others

-- what the rows from the number k on give, where they are kept, or the first fault of any of them
abbrev pub kept_from : {A : Type 0} → (ℕ → Data → Result (Option A) FieldFault) → ℕ → List Data → Result (List A) FieldFault
kept_from read k rows = and_then (each_from read k rows) (λ all. Ok (those_there all))

-- what the rows of the list of this name give, where they are kept, or the first fault of any of them
abbrev pub each_kept : {A : Type 0} → (Data → List ℕ → Result (Option A) FieldFault) → List ℕ → List Data → Result (List A) FieldFault
each_kept read name rows = and_then (each_row read name rows) (λ all. Ok (those_there all))

-- what the items of the array that is the member of this name give, and nothing where it isn't there
abbrev pub each_item : {A : Type 0} → (Data → List ℕ → Result A FieldFault) → Data → List ℕ → List ℕ → Result (List A) FieldFault
each_item read row path field = and_then (list_of row path field) (each_row read (at_member path field))

-- what the items of the array that is the member of this name give, where they are kept
abbrev pub each_kept_item : {A : Type 0} → (Data → List ℕ → Result (Option A) FieldFault) → Data → List ℕ → List ℕ → Result (List A) FieldFault
each_kept_item read row path field = and_then (list_of row path field) (each_kept read (at_member path field))

-- what the rows of the bundle's list of this name give
abbrev pub each_of : {A : Type 0} → (Data → List ℕ → Result A FieldFault) → Data → List ℕ → Result (List A) FieldFault
each_of read bundle name = and_then (rows_of bundle name) (each_row read name)

-- what the rows of the bundle's list of this name give, where they are kept
abbrev pub each_kept_of : {A : Type 0} → (Data → List ℕ → Result (Option A) FieldFault) → Data → List ℕ → Result (List A) FieldFault
each_kept_of read bundle name = and_then (rows_of bundle name) (each_kept read name)

-- the rows with another key, by this test
abbrev pub with_another : {A K : Type 0} → (K → K → Bool) → (A → K) → K → List A → List A
with_another same key_of key rows = filter (λ row. not (same (key_of row) key)) rows

-- of the rows with one key, the first
abbrev pub firsts_by : {A K : Type 0} → (K → K → Bool) → (A → K) → List A → List A
firsts_by same key_of [] = []
firsts_by same key_of (row ∷ rows) = row ∷ with_another same key_of (key_of row) (firsts_by same key_of rows)

-- of the rows with one id, the first
abbrev pub first_of_each : {A : Type 0} → (A → List ℕ) → List A → List A
first_of_each = firsts_by bytes_eq
