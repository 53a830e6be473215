-- The lines that are printed of rows by their starts. `reach` and `diff` print them by this pattern, each with words of its own for
-- what is told.
use Rattle.std.specs.Prelude.{◌++◌, ◌+◌, ◌∷◌, [], List, codes, decimal, length, map, ℕ}
use Rattle.block_report.specs.Reports.{box_text}
use Rattle.block_report.specs.Words.{line_end, word}
use Rattle.vpc_laws.specs.Types.{Row}
use Rattle.listing_reader.specs.declared.origins.Origin.{Origin}

-- a start with its rows
pub record Printed : Type 0 where
  pub origin : Origin
  pub rows : List (Row (List ℕ))

-- the starts
abbrev pub origins_of : List Printed → List Origin
origins_of printed = map (λ p. p.origin) printed

-- their rows
abbrev pub lists_of : List Printed → List (List (Row (List ℕ)))
lists_of printed = map (λ p. p.rows) printed

-- ---- lines

-- a row with its number and the id of its start
abbrev pub row_line : ℕ → List ℕ → Row (List ℕ) → List ℕ
row_line n id row = codes "row" ++ word (decimal n) ++ word id ++ word row.word ++ word (box_text row.part) ++ line_end

-- the rows of a start, numbered from n on
abbrev pub row_lines_from : ℕ → List ℕ → List (Row (List ℕ)) → List ℕ
row_lines_from n id [] = []
row_lines_from n id (row ∷ rows) = row_line n id row ++ row_lines_from (n + 1) id rows

-- those of some starts, one after another, numbered through from n on
abbrev pub lines_from : ℕ → List Printed → List ℕ
lines_from n [] = []
lines_from n (p ∷ printed) = row_lines_from n p.origin.id p.rows ++ lines_from (n + length p.rows) printed

-- how many rows there are
abbrev pub end_line : ℕ → List ℕ
end_line count = codes "end" ++ word (decimal count) ++ line_end
