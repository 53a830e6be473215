-- Choices among rows: the one that beats every other.
use Rattle.std.specs.List.{list_any}
use Rattle.std.specs.Prelude.{◌&&◌, Bool, List, None, Option, Some, find, not, position, ℕ}

-- a candidate that no candidate beats
abbrev pub is_unbeaten : {X : Type 0} → (X → Bool) → (X → X → Bool) → List X → X → Bool
is_unbeaten candidate beats rows x = candidate x && not (list_any (λ y. candidate y && beats y x) rows)

-- the number of the chosen row: the first candidate that no candidate beats
abbrev pub chosen_number : {X : Type 0} → (X → Bool) → (X → X → Bool) → List X → Option ℕ
chosen_number candidate beats rows = position (is_unbeaten candidate beats rows) rows

-- the chosen row itself
abbrev pub chosen : {X : Type 0} → (X → Bool) → (X → X → Bool) → List X → Option X
chosen candidate beats rows = find (is_unbeaten candidate beats rows) rows

-- the first value, or else the second
abbrev pub or_else : {X : Type 0} → Option X → Option X → Option X
or_else None later = later
or_else (Some x) later = Some x
