-- The verdict on a report: what is found of its rows, whatever their order.
use Rattle.std.specs.Prelude.{◌-◌, ◌↔◌, ◌≡◌, ◌≢◌, ◌≤◌, All, AllPairs, List, Option, Some, map, slice_get, take, true, ℕ}
use Rattle.vpc_base.specs.Header.{IsBefore}
use Rattle.vpc_laws.specs.Types.{Box5, Description, Header, Row, StopText, Verdict}
use Rattle.header_boxes.specs.Boxes.{AreDisjoint, holds}
use Rattle.header_boxes.specs.Rows.{AreWhole, HasWord, IsFirstOutside, IsTrueReport}
use Rattle.box_survey.specs.Survey.{IsLeastOverlap}
use Rattle.report_reader.specs.Reports.{rows_of}
use Rattle.report_reader.specs.declared.report.Report.{Report}
use Rattle.vpc_model.specs.Appliances.{appliances_of}
use Rattle.vpc_model.specs.Report.{ending_of, meaning_of}
use Rattle.vpc_model.specs.Verdict.{verdict_of}
use Rattle.report_check.specs.declared.checked.Checked.{Checked}
use Rattle.report_check.specs.declared.checked.Checked.TheVariants as found

-- the boxes of the rows
abbrev pub boxes_of : List (Row StopText) → List Box5
boxes_of rows = map (λ row. row.part) rows

-- what stops each header of the report's query, with the described appliances
abbrev pub meaning_in : Description → Report → Header → Option StopText
meaning_in d r = meaning_of d (appliances_of d) r.start r.goal

-- all headers of the rows have the words of their rows
abbrev pub AreTrue : Description → Report → List (Row StopText) → Type 0
AreTrue d r rows = All (HasWord (meaning_in d r)) rows

-- no two rows share a header
abbrev pub AreApart : List (Row StopText) → Type 0
AreApart rows = AllPairs (λ a b. AreDisjoint a.part b.part) rows

-- the first header of the row that something else becomes of
pub record IsFirstUntrue (d : Description) (r : Report) (row : Row StopText) (h : Header) (v : Verdict) : Type 0 where
  pub inside : holds h row.part ≡ true
  pub verdict : v ≡ verdict_of d (appliances_of d) r.start r.goal h
  pub other : ending_of d v ≢ Some row.word
  pub first : (k : Header) → holds k row.part ≡ true → IsBefore k h → meaning_in d r k ≡ Some row.word

-- the first row, by its number from 1, that isn't true of all its headers
pub record IsLeastUntrue (d : Description) (r : Report) (i : ℕ) (h : Header) (v : Verdict) : Type 0 where
  pub row : Row StopText
  pub numbered : 1 ≤ i
  pub stands : slice_get (rows_of r) (i - 1) ≡ Some row
  pub untrue : IsFirstUntrue d r row h v
  pub before : AreTrue d r (take (i - 1) (rows_of r))

-- the first pair of rows, by their numbers from 1, that share a header
pub record IsLeastPair (rows : List (Row StopText)) (i j : ℕ) : Type 0 where
  pub first : 1 ≤ i
  pub second : 1 ≤ j
  pub least : IsLeastOverlap (boxes_of rows) (i - 1) (j - 1)

-- the report is true: its rows are, which are the leaves where it is a tree
abbrev pub IsReportTrue : Description → Report → Type 0
IsReportTrue d r = IsTrueReport (meaning_in d r) r.sides (rows_of r)

-- the first of these that is so; the leaves of a tree share no header and hold all
abbrev pub IsChecked : Description → Report → Checked → Type 0
IsChecked d r found.Yes = IsReportTrue d r
IsChecked d r (found.Overlap i j) = IsLeastPair (rows_of r) i j
IsChecked d r (found.Uncovered h) = AreApart (rows_of r) × IsFirstOutside r.sides (rows_of r) h
IsChecked d r (found.Untrue i h v) = AreApart (rows_of r) × (AreWhole r.sides (rows_of r) × IsLeastUntrue d r i h v)

-- a report gets a yes exactly where it is true
abbrev pub YesIsTruth : Type 0
YesIsTruth = (d : Description) (r : Report) (c : Checked) → IsChecked d r c → (c ≡ found.Yes) ↔ IsReportTrue d r
