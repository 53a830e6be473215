-- Numbers that stand beside ids.
use Rattle.std.specs.Prelude.{◌∷◌, [], List, None, Option, Some, bytes_eq, if◌then◌else◌, ℕ}

-- the number that stands beside the id
abbrev pub number_in : List (List ℕ × ℕ) → List ℕ → Option ℕ
number_in [] id = None
number_in (entry ∷ entries) id = if bytes_eq id entry.0 then Some entry.1 else number_in entries id
