-- Lines cut at their blanks.
use Rattle.std.specs.Prelude.{◌&&◌, Bool, List, bytes_eq, length, nat_le, ℕ}
use Rattle.report_reader.specs.Boxes.{word_at}

-- the first of two words or more is this one
abbrev pub begins_with : List ℕ → List (List ℕ) → Bool
begins_with word words = nat_le 2 (length words) && bytes_eq (word_at words 0) word
