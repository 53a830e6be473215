-- The texts of paths: where a value stands in a bundle.
use Rattle.std.specs.Prelude.{ℕ, ◌++◌, List, codes, decimal}

-- the member of this name
abbrev pub at_member : List ℕ → List ℕ → List ℕ
at_member path field = path ++ codes "." ++ field

-- the row of this number, from 0
abbrev pub at_row : List ℕ → ℕ → List ℕ
at_row name row = name ++ codes "[" ++ decimal row ++ codes "]"

-- the row of this number of the member of this name
abbrev pub at_item : List ℕ → List ℕ → ℕ → List ℕ
at_item path field row = at_row (at_member path field) row

-- the bundle as a whole
abbrev pub bundle_path : List ℕ
bundle_path = codes "$"
