-- Listings, as `reach` and `diff` print them: rows by their starts, each a box of requests with what is told of them.
use Rattle.std.specs.List.{flat_map, list_any}
use Rattle.std.specs.Prelude.{◌==◌, ◌&&◌, ◌++◌, ◌+◌, ◌-◌, ◌∷◌, [], if◌then◌else◌, Bool, Err, List, None, Ok, Option, Result, Some, bytes_eq, codes, decimal, drop, length, nat_le, nat_lt, option_map, sum_by, take, ℕ}
use Rattle.block_report.specs.Words.{word}
use Rattle.query_words.specs.Events.{words_of}
use Rattle.vpc_laws.specs.Types.{Box5, Row}
use Rattle.listing_reader.specs.declared.origins.Origin.{Origin}
use Rattle.report_reader.specs.Boxes.{◌>>=◌, box_at, is_inside, word_at}
use Rattle.report_reader.specs.Lines.{is_end_line}
use Rattle.report_reader.specs.Reports.{row_limit}
use Rattle.report_reader.specs.declared.report.ReportFault.{ReportFault}
use Rattle.report_reader.specs.declared.report.ReportFault.TheVariants as faults

-- ---- words

-- words with one blank between each two
abbrev pub joined : List (List ℕ) → List ℕ
joined [] = []
joined (first ∷ others) = first ++ flat_map word others

-- ---- rows

-- `row`, its number and the id of its start, before one word or more and a box
abbrev pub is_row : ℕ → List ℕ → List (List ℕ) → Bool
is_row number id words =
    nat_le 9 (length words)
    && (bytes_eq (word_at words 0) (codes "row") && (bytes_eq (word_at words 1) (decimal number) && bytes_eq (word_at words 2) id))

-- the box of the last five words, where it lies in one of those that are asked for
abbrev pub part_of : List Box5 → List (List ℕ) → Option Box5
part_of boxes words = do
  part ← box_at words (length words - 5)
  if list_any (is_inside part) boxes then Some part else None

-- what is told: the words between the start and the box
abbrev pub told_in : List (List ℕ) → List ℕ
told_in words = joined (take (length words - 8) (drop 3 words))

-- row NUMBER START TOLD BOX
abbrev pub row_of : Origin → ℕ → List (List ℕ) → Option (Row (List ℕ))
row_of origin number words =
    if is_row number origin.id words then option_map (λ part. record { part = part; word = told_in words }) (part_of origin.boxes words)
    else None

-- ---- the rows of a start

-- a row before the others, unless there is none
abbrev pub row_before : Option (Row (List ℕ)) → List (Row (List ℕ)) → List (Row (List ℕ))
row_before None rows = []
row_before (Some row) rows = row ∷ rows

-- the rows of a start at the head of these lines, numbered from n on
abbrev pub rows_at : Origin → ℕ → List (List ℕ) → List (Row (List ℕ))
rows_at origin n [] = []
rows_at origin n (line ∷ lines) = row_before (row_of origin n (words_of line)) (rows_at origin (n + 1) lines)

-- those of one start after another
abbrev pub lists_at : List Origin → ℕ → List (List ℕ) → List (List (Row (List ℕ)))
lists_at [] n lines = []
lists_at (origin ∷ origins) n lines =
    let rows = rows_at origin n lines in
    rows ∷ lists_at origins (n + length rows) (drop (length rows) lines)

-- how many rows there are
abbrev pub row_count : List (List (Row (List ℕ))) → ℕ
row_count lists = sum_by length lists

-- ---- the lines after the first two

-- these lines, after so many rows, are the end and nothing else
abbrev pub end_after : ℕ → Bool → List (List ℕ) → Result (Unit {0}) ReportFault
end_after count ended [] = Err (faults.BadLine (count + 3))
end_after count ended (line ∷ lines) =
    if is_end_line count (words_of line) then (if (length lines == 0) && ended then Ok tt else Err (faults.BadLine (count + 4)))
    else Err (faults.BadLine (count + 3))

-- the rows, where what follows them is the end
abbrev pub lists_before : List (List (Row (List ℕ))) → Result (Unit {0}) ReportFault → Result (List (List (Row (List ℕ)))) ReportFault
lists_before lists (Ok end) = Ok lists
lists_before lists (Err fault) = Err fault

-- the rows of each start, or the first line that isn't in the grammar; what isn't a row of any start must be the end
abbrev pub lists_in : List Origin → Bool → List (List ℕ) → Result (List (List (Row (List ℕ)))) ReportFault
lists_in origins ended lines =
    let lists = lists_at origins 1 lines in
    let count = row_count lists in
    if nat_lt row_limit count then Err (faults.TooManyBoxes (row_limit + 3)) else lists_before lists (end_after count ended (drop count lines))
