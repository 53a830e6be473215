-- What is found of a listing. Its rows are numbered from 1, through all starts.
use Rattle.std.specs.Prelude.{◌≡◌, ◌≢◌, ◌+◌, ◌↔◌, All, List, Option, Some, length, map, slice_get, sum_by, take, true, ℕ}
use Rattle.box_gather.specs.Over.{IsFirstLeftOut}
use Rattle.box_survey.specs.Survey.{IsLeastOverlap}
use Rattle.header_boxes.specs.Boxes.{holds}
use Rattle.header_boxes.specs.Rows.{HasWord}
use Rattle.header_boxes.specs.declared.boxes.Box5.{Box5}
use Rattle.header_boxes.specs.declared.rows.Row.{Row}
use Rattle.vpc_base.specs.Header.{IsBefore}
use Rattle.vpc_base.specs.declared.headers.Header.{Header}
use Rattle.listing_check.specs.Asked.{AreApart, AreTrue, HoldAll, IsTrueListing, Listed}
use Rattle.listing_check.specs.declared.found.Found.{Found}
use Rattle.listing_check.specs.declared.found.Found.TheVariants as found

-- how many rows the first k starts have
abbrev pub rows_before : ℕ → List Listed → ℕ
rows_before k listed = sum_by (λ l. length l.rows) (take k listed)

-- the boxes of rows
abbrev pub boxes_of : List (Row (List ℕ)) → List Box5
boxes_of rows = map (λ row. row.part) rows

-- ---- one start

-- the first header of a row of which something else is told, or nothing
pub record IsFirstOther (told : Header → Option (List ℕ)) (wanted : Option (List ℕ)) (part : Box5) (h : Header) : Type 0 where
  pub inside : holds h part ≡ true
  pub other : told h ≢ wanted
  pub first : (k : Header) → holds k part ≡ true → IsBefore k h → told k ≡ wanted

-- the first row of a start, by its number from 0, that isn't true of all its headers, with the first of these
pub record IsFirstUntrueIn (l : Listed) (number : ℕ) (h : Header) : Type 0 where
  pub row : Row (List ℕ)
  pub stands : slice_get l.rows number ≡ Some row
  pub other : let asked = l.asked in IsFirstOther asked.told (Some row.word) row.part h
  pub before : let asked = l.asked in All (HasWord asked.told) (take number l.rows)

-- ---- all starts

-- the first two rows of one start that share a header
pub record IsOverlap (listed : List Listed) (i j : ℕ) : Type 0 where
  pub start : ℕ
  pub l : Listed
  pub stands : slice_get listed start ≡ Some l
  pub first : ℕ
  pub second : ℕ
  pub first_is : i ≡ rows_before start listed + (first + 1)
  pub second_is : j ≡ rows_before start listed + (second + 1)
  pub least : IsLeastOverlap (boxes_of l.rows) first second
  pub before : All AreApart (take start listed)

-- the first row that isn't true of all its headers, with its start and the first of these
pub record IsUntrue (listed : List Listed) (i start : ℕ) (h : Header) : Type 0 where
  pub l : Listed
  pub stands : slice_get listed start ≡ Some l
  pub number : ℕ
  pub number_is : i ≡ rows_before start listed + (number + 1)
  pub untrue : IsFirstUntrueIn l number h
  pub before : All AreTrue (take start listed)

-- the first start of which a request is told something and is in no row, with the first such request
pub record IsUnlisted (listed : List Listed) (start : ℕ) (h : Header) : Type 0 where
  pub l : Listed
  pub stands : slice_get listed start ≡ Some l
  pub left_out : let asked = l.asked in IsFirstLeftOut asked.told asked.boxes l.rows h
  pub before : All HoldAll (take start listed)

-- the first of these that is so
abbrev pub IsFound : List Listed → Found → Type 0
IsFound listed found.Yes = IsTrueListing listed
IsFound listed (found.Overlap i j) = IsOverlap listed i j
IsFound listed (found.Untrue i start h) = All AreApart listed × IsUntrue listed i start h
IsFound listed (found.Unlisted start h) = All AreApart listed × (All AreTrue listed × IsUnlisted listed start h)

-- a listing gets a yes exactly where it is true
abbrev pub YesIsTruth : Type 0
YesIsTruth = (listed : List Listed) (f : Found) → IsFound listed f → (f ≡ found.Yes) ↔ IsTrueListing listed
