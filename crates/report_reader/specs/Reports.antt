-- What a text says as a report, or the first line that is not in the grammar.
use Rattle.std.specs.List.{slice_split}
use Rattle.std.specs.Prelude.{◌==◌, ◌≡◌, ◌≤◌, ◌&&◌, All, ◌+◌, ◌-◌, ◌∷◌, [], if◌then◌else◌, Bool, Err, List, None, Ok, Option, Result, Some, drop, length, nat_lt, ok_or, option_and_then, slice_get, slice_index_or, take, true, ℕ}
use Rattle.vpc_laws.specs.Types.{Box5, Description, Row, StopText}
use Rattle.query_words.specs.Events.{words_of}
use Rattle.report_reader.specs.declared.report.Report.{Report}
use Rattle.report_reader.specs.declared.report.ReportFault.{ReportFault}
use Rattle.report_reader.specs.declared.report.ReportFault.TheVariants as faults
use Rattle.header_boxes.specs.Boxes.{IsValid, IsWithin}
use Rattle.vpc_model.specs.Sound.{is_end}
use Rattle.ordered_cover.specs.Trees.{IsCutTree, leaf_count, leaves_of}
use Rattle.report_reader.specs.Lines.{is_end_line, query_of, row_of, sides_of, version_of}
use Rattle.report_reader.specs.Nodes.{leaf_limit, nodes_from}
use Rattle.report_reader.specs.declared.lines.Version.{Version}
use Rattle.report_reader.specs.declared.lines.Version.TheVariants as versions
use Rattle.report_reader.specs.declared.report.Shape.{Shape}
use Rattle.report_reader.specs.declared.report.Shape.TheVariants as shapes

-- ---- lines

-- what stands between newlines, before the first and after the last
abbrev pub pieces_of : List ℕ → List (List ℕ)
pieces_of text = slice_split (λ c. c == 10) text

-- the lines, each of which ends with a newline
abbrev pub lines_of : List (List ℕ) → List (List ℕ)
lines_of pieces = take (length pieces - 1) pieces

-- nothing stands after the last newline
abbrev pub is_ended : List (List ℕ) → Bool
is_ended pieces = length (slice_index_or pieces (length pieces - 1) []) == 0

-- ---- rows

-- the rows that a report may have
abbrev pub row_limit : ℕ
row_limit = 20000

-- no row, where the report ends with this line after so many rows
abbrev pub end_after : ℕ → Bool → List (List ℕ) → Result (Option (Row StopText)) ReportFault
end_after count last words =
    if is_end_line count words then (if last then Ok None else Err (faults.BadLine (count + 5)))
    else Err (faults.BadLine (count + 4))

-- a row after so many others, where it is read
abbrev pub within_limit : ℕ → Row StopText → Result (Option (Row StopText)) ReportFault
within_limit count row = if nat_lt count row_limit then Ok (Some row) else Err (faults.TooManyBoxes (count + 4))

-- a row that is read, or the end
abbrev pub row_or_end : ℕ → Bool → List (List ℕ) → Option (Row StopText) → Result (Option (Row StopText)) ReportFault
row_or_end count last words (Some row) = within_limit count row
row_or_end count last words None = end_after count last words

-- the row after so many others, on the line after the first three and theirs
abbrev pub next_row : Box5 → ℕ → Bool → List ℕ → Result (Option (Row StopText)) ReportFault
next_row whole count last line =
    let words = words_of line in row_or_end count last words (row_of whole (count + 1) words)

-- a row before the others, unless the report ends here
abbrev pub row_before : {A E : Type 0} → Result (Option A) E → Result (List A) E → Result (List A) E
row_before (Ok (Some row)) (Ok rows) = Ok (row ∷ rows)
row_before (Ok (Some row)) (Err fault) = Err fault
row_before (Ok None) rows = Ok []
row_before (Err fault) rows = Err fault

-- the rows after so many others; the line after the last one is the report's last
abbrev pub rows_from : Box5 → Bool → ℕ → List (List ℕ) → Result (List (Row StopText)) ReportFault
rows_from whole ended count [] = Err (faults.BadLine (count + 4))
rows_from whole ended count (line ∷ lines) =
    row_before (next_row whole count ((length lines == 0) && ended) line) (rows_from whole ended (count + 1) lines)

-- ---- reports

-- what is read after something that was read; the first fault is the answer
infixl 10 ◌>>=◌
abbrev pub ◌>>=◌ : {A B : Type 0} → Result A ReportFault → (A → Result B ReportFault) → Result B ReportFault
(Ok a) >>= next = next a
(Err fault) >>= next = Err fault

-- the line with this number, from 1, by its grammar; a line that isn't there is a bad one
abbrev pub line_as : {A : Type 0} → (List (List ℕ) → Option A) → List (List ℕ) → ℕ → Result A ReportFault
line_as grammar lines number =
    ok_or (option_and_then (λ line. grammar (words_of line)) (slice_get lines (number - 1))) (faults.BadLine number)

-- the boxes after the first three lines, as the version writes them
abbrev pub shape_from : Version → Box5 → Bool → List (List ℕ) → Result Shape ReportFault
shape_from versions.First whole ended lines = rows_from whole ended 0 lines >>= (λ rows. Ok (shapes.List rows))
shape_from versions.Second whole ended lines = nodes_from (whole ∷ []) ended 0 4 lines >>= (λ nodes. Ok (shapes.Tree nodes))

-- the report of these lines, and whether the text ends with the last of them
abbrev pub report_in : Description → List (List ℕ) → Bool → Result Report ReportFault
report_in d lines ended = do
  version ← line_as version_of lines 1
  ends ← line_as (query_of d) lines 2
  sides ← line_as sides_of lines 3
  shape ← shape_from version sides ended (drop 3 lines)
  Ok (record { start = ends.0; goal = ends.1; sides = sides; shape = shape })

-- the report of what stands between newlines
abbrev pub report_of_pieces : Description → List (List ℕ) → Result Report ReportFault
report_of_pieces d pieces = report_in d (lines_of pieces) (is_ended pieces)

-- the report that a text says, or the first line that is not in the grammar
abbrev pub report_of_text : Description → List ℕ → Result Report ReportFault
report_of_text d text = report_of_pieces d (pieces_of text)

-- ---- answers

-- what is meant, or memory was wanting
abbrev pub IsRead : {A : Type 0} → Result A ReportFault → Result A ReportFault → Type 0
IsRead meant (Ok value) = meant ≡ Ok value
IsRead meant (Err (faults.BadLine number)) = meant ≡ Err (faults.BadLine number)
IsRead meant (Err (faults.TooManyBoxes number)) = meant ≡ Err (faults.TooManyBoxes number)
IsRead meant (Err faults.Memory) = Unit {0}

-- the boxes lie in that of the query, and are no more than are read; or they are the leaves of a cut tree of it
abbrev pub IsSoundShape : Box5 → Shape → Type 0
IsSoundShape sides (shapes.List rows) = All (λ row. IsWithin row.part sides) rows × (length rows ≤ row_limit)
IsSoundShape sides (shapes.Tree nodes) = IsCutTree nodes sides × (leaf_count nodes ≤ leaf_limit)

-- a report whose ends are described, whose box is valid, and whose boxes are such
pub record IsSoundReport (d : Description) (r : Report) : Type 0 where
  pub start : is_end d r.start ≡ true
  pub goal : is_end d r.goal ≡ true
  pub valid : IsValid r.sides
  pub shape : IsSoundShape r.sides r.shape

-- the rows of a report, in their order: those of a tree are its leaves
abbrev pub rows_in_shape : Box5 → Shape → List (Row StopText)
rows_in_shape sides (shapes.List rows) = rows
rows_in_shape sides (shapes.Tree nodes) = leaves_of nodes sides

abbrev pub rows_of : Report → List (Row StopText)
rows_of r = rows_in_shape r.sides r.shape
