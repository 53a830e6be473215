-- The lines of a flow log (VPC User Guide, "Flow log records").
use Rattle.std.specs.List.{enumerate_from}
use Rattle.std.specs.Prelude.{◌∷◌, [], if◌then◌else◌, Bool, List, bytes_eq, codes, ℕ}
use Rattle.query_words.specs.Events.{lines_of, words_of}
use Rattle.query_words.specs.Words.{word_at}

-- a line that names the fields, as every log in S3 begins with one
abbrev pub names_fields : List ℕ → Bool
names_fields line = bytes_eq (word_at (words_of line) 1) (codes "version")

-- the lines but for a first one that names the fields
abbrev pub after_names : List (ℕ × List ℕ) → List (ℕ × List ℕ)
after_names [] = []
after_names (first ∷ rest) = if names_fields first.1 then rest else first ∷ rest

-- the lines that tell of flows, each with its number, from 1; a first line that names the fields counts
abbrev pub numbered_lines : List ℕ → List (ℕ × List ℕ)
numbered_lines text = after_names (enumerate_from 1 (lines_of text))
