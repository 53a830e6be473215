-- Values with their keys.
use Rattle.std.specs.Prelude.{◌==◌, List, Option, find, option_map, ℕ}
use Rattle.number_tables.specs.declared.tables.Entry.{Entry}

-- the value of the first entry with the key
abbrev pub value_at : {T : Type 0} → ℕ → List (Entry T) → Option T
value_at k entries = option_map (λ e. e.value) (find (λ e. e.key == k) entries)
