-- How rows of several boxes are piled up.
use Rattle.std.specs.Prelude.{ℕ, ◌≡◌, ◌≢◌, ◌≤◌, ◌<◌, ◌+◌, ◌⊎◌, All, Bool, Contains, IfSome, IsPermutation, List, None, Option, Some, false, filter, if◌then◌else◌, length, slice_index_or, take, true}
use Rattle.std.specs.List.Sorted.{IsSortedBy}
use Rattle.std.specs.Option.{is_some}
use Rattle.std.specs.Ordering.{is_lt}
use Rattle.vpc_base.specs.Cuts.{AreAmong, CutLists}
use Rattle.vpc_base.specs.Header.{IsBefore, order_of}
use Rattle.vpc_base.specs.declared.headers.Header.{Header}
use Rattle.header_boxes.specs.Boxes.{low_of}
use Rattle.header_boxes.specs.Rows.{HasWord, is_covered}
use Rattle.header_boxes.specs.declared.boxes.Box5.{Box5}
use Rattle.header_boxes.specs.declared.rows.Row.{Row}
use Rattle.ordered_cover.specs.Joined.{CanJoin}
use Rattle.ordered_cover.specs.Open.{holders, one_if, row_holders}
use Rattle.ordered_cover.specs.declared.rows.Gathered.{Gathered}
use Rattle.ordered_cover.specs.declared.rows.Gathered.TheVariants.{All as Whole, More}
use Rattle.box_gather.specs.Over.{GoesOnWithin, IsPartOf, cells_over, is_in}

-- the first header comes before the other
abbrev pub is_before : Header → Header → Bool
is_before a b = is_lt (order_of a b)

-- the one that comes first, where there are two
abbrev pub earlier : Option Header → Option Header → Option Header
earlier None b = b
earlier (Some a) None = Some a
earlier (Some a) (Some b) = if is_before b a then Some b else Some a

-- the row begins before a header
abbrev pub begins_before : {W : Type 0} → Header → Row W → Bool
begins_before next r = is_before (low_of r.part) next

-- the rows that begin before a header, if there is one
abbrev pub kept_before : {W : Type 0} → Option Header → List (Row W) → List (Row W)
kept_before None rows = rows
kept_before (Some n) rows = filter (begins_before n) rows

-- no row begins before one that stands earlier
abbrev pub RiseByCorner : {W : Type 0} → List (Row W) → Type 0
RiseByCorner rows = IsSortedBy (λ a b. is_before (low_of a.part) (low_of b.part)) rows

-- the rows in order: all of them, or the first ones, and then the next one's low corner is left out
pub data IsTrimmed {W : Type 0} (room : ℕ) (rows : List (Row W)) (next : Option Header) (new_rows : List (Row W)) (new_next : Option Header) : Type 0 where
  whole : length new_rows ≤ room → IsPermutation rows new_rows → RiseByCorner new_rows → new_next ≡ next → IsTrimmed room rows next new_rows new_next
  cut : (sorted : List (Row W)) → IsPermutation rows sorted → RiseByCorner sorted → room < length sorted
      → (row : Row W) → row ≡ slice_index_or sorted room row → new_rows ≡ take room sorted → new_next ≡ Some (low_of row.part)
      → IsTrimmed room rows next new_rows new_next

-- a pile that was trimmed, or is as it was
pub data IsShortened {W : Type 0} (room : ℕ) (rows : List (Row W)) (next : Option Header) (new_rows : List (Row W)) (new_next : Option Header) : Type 0 where
  kept : new_rows ≡ rows → new_next ≡ next → IsShortened room rows next new_rows new_next
  trimmed : IsTrimmed room rows next new_rows new_next → IsShortened room rows next new_rows new_next

-- what was gathered, as rows and the header that is left out
abbrev pub IsPiled : {W : Type 0} → Gathered W → List (Row W) → Option Header → Type 0
IsPiled (Whole all) rows next = (all.items ≡ rows) × (next ≡ None)
IsPiled (More some h) rows next = (some.items ≡ rows) × (next ≡ Some h)

-- ---- what is known of a pile

-- a header that doesn't come before one that is left out
abbrev pub IsPast : Option Header → Header → Type 0
IsPast None h = ⊥
IsPast (Some n) h = ¬ (IsBefore h n)

-- a header of the boxes that is told something and is in no row
pub record IsLeftOut {W : Type 0} (meaning : Header → Option W) (boxes : List Box5) (rows : List (Row W)) (h : Header) : Type 0 where
  pub inside : is_in boxes h ≡ true
  pub told : meaning h ≢ None
  pub outside : is_covered rows h ≡ false

-- a row that begins after one box and before the other
pub record StandsBetween {W : Type 0} (rows : List (Row W)) (first other : Box5) : Type 0 where
  pub row : Row W
  pub among : Contains rows row
  pub after : IsBefore (low_of first) (low_of row.part)
  pub before : IsBefore (low_of row.part) (low_of other)

-- between two rows of one box that could be one begins a third
abbrev pub AreParted : {W : Type 0} → List Box5 → List (Row W) → Type 0
AreParted {W} boxes rows =
    (first other : Row W) → Contains rows first → Contains rows other → CanJoin (GoesOnWithin boxes) first other → StandsBetween rows first.part other.part

-- rows of some boxes, in any order: up to a header that is left out they hold all that is told something, and then they are room or more
pub record IsPile {W : Type 0} (meaning : Header → Option W) (cuts : CutLists) (boxes : List Box5) (room : ℕ) (rows : List (Row W)) (next : Option Header) : Type 0 where
  pub parts : All (λ r. IsPartOf cuts boxes r.part) rows
  pub word : All (HasWord meaning) rows
  pub each : (h : Header) → row_holders rows h ≤ holders boxes h
  pub told : (h : Header) → is_in boxes h ≡ true → meaning h ≢ None → (is_covered rows h ≡ true) ⊎ IsPast next h
  pub next_is : IfSome next (IsLeftOut meaning boxes rows)
  pub begun : IfSome next (λ n. All (λ r. IsBefore (low_of r.part) n) rows)
  pub many : IfSome next (λ n. room ≤ length rows)
  pub cells : (all : CutLists) → AreAmong cuts all → one_if (is_some next) + length rows ≤ cells_over all boxes
  pub parted : AreParted boxes rows
