-- Ids by numbers.
use Rattle.std.specs.Prelude.{◌==◌, ◌≡◌, Bool, List, None, Option, Some, bytes_eq, false, position, ℕ}
use Rattle.vpc_model.specs.Lookup.{is_listed}

-- the number of an id: where it stands first
abbrev pub place_of : List (List ℕ) → List ℕ → Option ℕ
place_of ids id = position (λ i. bytes_eq i id) ids

-- the number is this one
abbrev pub is_number : Option ℕ → ℕ → Bool
is_number None n = false
is_number (Some k) n = k == n

-- the list has the same ids
abbrev pub HasIds : List (List ℕ) → List (List ℕ) → Type 0
HasIds wanted ids = (id : List ℕ) → is_listed id ids ≡ is_listed id wanted

-- ids keep their numbers
abbrev pub KeepsNumbers : List (List ℕ) → List (List ℕ) → Type 0
KeepsNumbers before after = (id : List ℕ) (k : ℕ) → place_of before id ≡ Some k → place_of after id ≡ Some k
