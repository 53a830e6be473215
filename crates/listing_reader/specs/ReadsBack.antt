-- Printed rows read as what was printed.
use Rattle.std.specs.List.{AllPairs, list_any}
use Rattle.std.specs.Prelude.{◌≡◌, ◌≢◌, ◌≤◌, ◌==◌, ◌++◌, ◌∷◌, All, List, Ok, drop, false, true, ℕ}
use Rattle.header_boxes.specs.Boxes.{IsValid}
use Rattle.vpc_laws.specs.Types.{Box5, Row}
use Rattle.report_reader.specs.Boxes.{is_inside}
use Rattle.report_reader.specs.ReadsBack.{Fits}
use Rattle.report_reader.specs.Reports.{is_ended, lines_of, pieces_of, row_limit}
use Rattle.listing_reader.specs.Listings.{lists_in, row_count}
use Rattle.listing_reader.specs.Printed.{Printed, end_line, lines_from, lists_of, origins_of}

-- no newline stands in a text
abbrev pub IsOneLine : List ℕ → Type 0
IsOneLine text = All (λ c. (c == 10) ≡ false) text

-- nor a blank in a word
abbrev pub HasNoBlank : List ℕ → Type 0
HasNoBlank text = All (λ c. (c == 32) ≡ false) text

-- what is told is on one line, the box isn't empty, its numbers are those of their fields, and it lies in one that is asked for
pub record IsPrintableRow (boxes : List Box5) (row : Row (List ℕ)) : Type 0 where
  pub told : IsOneLine row.word
  pub valid : IsValid row.part
  pub fits : Fits row.part
  pub asked : list_any (is_inside row.part) boxes ≡ true

-- the id of the start is one word
pub record IsPrintable (p : Printed) : Type 0 where
  pub id_line : IsOneLine p.origin.id
  pub id_word : HasNoBlank p.origin.id
  pub rows : All (IsPrintableRow p.origin.boxes) p.rows

-- no two starts have one id, and the rows are as many as are read
pub record ArePrintable (printed : List Printed) : Type 0 where
  pub each : All IsPrintable printed
  pub apart : AllPairs (λ p q. p.origin.id ≢ q.origin.id) printed
  pub few : row_count (lists_of printed) ≤ row_limit

-- they read as themselves
abbrev pub PrintedListsReadBack : Type 0
PrintedListsReadBack =
    (printed : List Printed) → ArePrintable printed
    → (let pieces = pieces_of (lines_from 1 printed ++ end_line (row_count (lists_of printed))) in
    lists_in (origins_of printed) (is_ended pieces) (lines_of pieces) ≡ Ok (lists_of printed))

-- after two more lines the lines of a text are the same, and so is whether it ends with a newline
abbrev pub LinesFollowTwo : Type 0
LinesFollowTwo =
    (first second text : List ℕ) → IsOneLine first → IsOneLine second
    → (let all = pieces_of (first ++ 10 ∷ (second ++ 10 ∷ text)) in
    let pieces = pieces_of text in
    (drop 2 (lines_of all) ≡ lines_of pieces) × (is_ended all ≡ is_ended pieces))
