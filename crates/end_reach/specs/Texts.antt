-- How the answer is printed. Each line ends with one newline.
use Rattle.std.specs.Prelude.{◌++◌, ◌+◌, ◌∷◌, [], List, codes, decimal, ℕ}
use Rattle.block_report.specs.Reports.{box_text}
use Rattle.block_report.specs.Words.{line_end, word}
use Rattle.header_boxes.specs.declared.rows.Row.{Row}
use Rattle.listing_text.specs.Texts.{told_lines_from}
use Rattle.listing_text.specs.Texts as texts
use Rattle.listing_text.specs.Told.{row_count}
use Rattle.vpc_laws.specs.Types.{Description, End, Header}
use Rattle.vpc_model.specs.Told.{end_id}
use Rattle.end_reach.specs.Told.{StartRows}

-- ---- rows

-- a row with its number
abbrev pub row_line : Description → ℕ → End → Row End → List ℕ
row_line d n start row = codes "row" ++ word (decimal n) ++ word (end_id d start) ++ word (end_id d row.word) ++ word (box_text row.part) ++ line_end

-- the rows of a start, numbered from n on
abbrev pub row_lines_from : Description → ℕ → End → List (Row End) → List ℕ
row_lines_from d n start [] = []
row_lines_from d n start (row ∷ rows) = row_line d n start row ++ row_lines_from d (n + 1) start rows

-- ---- answers

-- by the lines of the rows
abbrev pub whole_of : List (List ℕ) → List ℕ → ℕ → List ℕ
whole_of words lines count = texts.whole_of (codes "vpc-reach 1") 2 words lines count

abbrev pub part_of : Description → List (List ℕ) → List ℕ → End → Header → List ℕ
part_of d words lines start next = texts.part_of (codes "more reach") 2 words lines (end_id d start) next

-- all rows
abbrev pub whole_text : Description → List (List ℕ) → List StartRows → List ℕ
whole_text d words told = whole_of words (told_lines_from (row_lines_from d) 1 told) (row_count told)

-- rows that leave headers out
abbrev pub part_text : Description → List (List ℕ) → List StartRows → StartRows → Header → List ℕ
part_text d words told last next = part_of d words (told_lines_from (row_lines_from d) 1 (told ++ last ∷ [])) last.start next
