-- The lines of a report, each read from its words by a grammar of its own.
use Rattle.std.specs.Prelude.{◌==◌, ◌&&◌, ◌∷◌, [], if◌then◌else◌, Bool, List, None, Option, Some, bytes_eq, codes, decimal, false, length, option_and_then, true, ℕ}
use Rattle.std.specs.Result.{result_ok}
use Rattle.vpc_laws.specs.Types.{Box5, Description, End, Row, StopText}
use Rattle.vpc_model.specs.declared.places.End.TheVariants as ends
use Rattle.query_words.specs.Ends.{end_of, end_with, start_of}
use Rattle.report_reader.specs.Boxes.{◌>>=◌, box_at, is_inside, word_at}
use Rattle.report_reader.specs.Stops.{told_of}
use Rattle.report_reader.specs.declared.lines.Version.{Version}
use Rattle.report_reader.specs.declared.lines.Version.TheVariants as versions

-- ---- the version

-- vpc-report NUMBER
abbrev pub is_version : List ℕ → List (List ℕ) → Bool
is_version number words =
    (length words == 2)
    && (bytes_eq (word_at words 0) (codes "vpc-report") && bytes_eq (word_at words 1) number)

-- the first line says nothing else
abbrev pub version_of : List (List ℕ) → Option Version
version_of words =
    if is_version (codes "1") words then Some versions.First
    else (if is_version (codes "2") words then Some versions.Second else None)

-- ---- the query

-- an end by its word: an interface that belongs to no gateway, or what leads to a network that isn't described
abbrev pub row_named : Description → List ℕ → Option End
row_named d word = option_and_then (λ e. e) (result_ok (end_with d word))

-- the same, or the internet
abbrev pub end_named : Description → List ℕ → Option End
end_named d word = result_ok (end_of d (word ∷ []) 1)

-- an end from which requests are sent
abbrev pub start_named : Description → List ℕ → Option End
start_named d word = result_ok (start_of d (word ∷ []) 1)

-- the internet
abbrev pub is_internet : End → Bool
is_internet (ends.Interface i) = false
is_internet ends.Internet = true
is_internet (ends.Far k) = false

-- two ends, not both of them the internet
abbrev pub ends_named : Description → List ℕ → List ℕ → Option (End × End)
ends_named d from_id to_id = do
  start ← start_named d from_id
  goal ← end_named d to_id
  if is_internet start && is_internet goal then None else Some (start, goal)

-- `query from` and `to` round the two ends
abbrev pub is_query : List (List ℕ) → Bool
is_query words =
    (length words == 5)
    && (bytes_eq (word_at words 0) (codes "query")
    && (bytes_eq (word_at words 1) (codes "from") && bytes_eq (word_at words 3) (codes "to")))

-- query from END to END
abbrev pub query_of : Description → List (List ℕ) → Option (End × End)
query_of d words = if is_query words then ends_named d (word_at words 2) (word_at words 4) else None

-- `box` before the five ranges
abbrev pub is_sides : List (List ℕ) → Bool
is_sides words = (length words == 6) && bytes_eq (word_at words 0) (codes "box")

-- box BOX
abbrev pub sides_of : List (List ℕ) → Option Box5
sides_of words = if is_sides words then box_at words 1 else None

-- ---- rows

-- `row` and its number, before nine words
abbrev pub is_row : ℕ → List (List ℕ) → Bool
is_row number words =
    (length words == 11)
    && (bytes_eq (word_at words 0) (codes "row") && bytes_eq (word_at words 1) (decimal number))

-- a box inside that of the query
abbrev pub part_of : Box5 → List (List ℕ) → Option Box5
part_of whole words = do
  part ← box_at words 6
  if is_inside part whole then Some part else None

-- PHASE STOP
abbrev pub told_in : List (List ℕ) → Option StopText
told_in words = told_of (word_at words 2) (word_at words 3) (word_at words 4) (word_at words 5)

-- PHASE STOP BOX
abbrev pub row_in : Box5 → List (List ℕ) → Option (Row StopText)
row_in whole words = do
  part ← part_of whole words
  told ← told_in words
  Some (record { part = part; word = told })

-- row NUMBER PHASE STOP BOX
abbrev pub row_of : Box5 → ℕ → List (List ℕ) → Option (Row StopText)
row_of whole number words = if is_row number words then row_in whole words else None

-- end NUMBER, with the number of rows
abbrev pub is_end_line : ℕ → List (List ℕ) → Bool
is_end_line count words =
    (length words == 2)
    && (bytes_eq (word_at words 0) (codes "end") && bytes_eq (word_at words 1) (decimal count))
