-- Ids.
use Rattle.std.specs.Prelude.{ℕ, ◌≡◌, ◌&&◌, nat_le, Bool, true, false, List, Option, Some, None, length}
use Rattle.std.specs.List.{list_all}

-- a visible ASCII character (profile)
abbrev pub is_visible : ℕ → Bool
is_visible c = nat_le 33 c && nat_le c 126

-- 1 to 256 visible characters (profile)
abbrev pub is_id : List ℕ → Bool
is_id text = nat_le 1 (length text) && (nat_le (length text) 256 && list_all is_visible text)

-- the id of a text, or none where it is no id (profile)
abbrev pub IsIdOf : List ℕ → Option (List ℕ) → Type 0
IsIdOf text None = is_id text ≡ false
IsIdOf text (Some id) = (is_id text ≡ true) × (id ≡ text)
