-- What is told of the headers of several boxes, over a meaning that tells some of them a word.
use Rattle.std.specs.Prelude.{ℕ, ◌≡◌, ◌≢◌, ◌≤◌, ◌<◌, Bool, true, false, List, Option, None, All, AllPairs, Contains, length, sum_by}
use Rattle.std.specs.List.{list_any}
use Rattle.vpc_base.specs.Header.{IsBefore}
use Rattle.vpc_base.specs.Cuts.{AreAmong, CutLists}
use Rattle.vpc_base.specs.declared.headers.Header.{Header}
use Rattle.header_boxes.specs.Boxes.{AreDisjoint, IsWithin, holds, low_of}
use Rattle.header_boxes.specs.Cells.{IsAligned, cells_of}
use Rattle.header_boxes.specs.Rows.{HasWord, is_covered}
use Rattle.header_boxes.specs.declared.boxes.Box5.{Box5}
use Rattle.header_boxes.specs.declared.rows.Row.{Row}
use Rattle.ordered_cover.specs.Joined.{AreJoined, GoesOnEitherWay}
use Rattle.ordered_cover.specs.declared.rows.Gathered.{Gathered}
use Rattle.ordered_cover.specs.declared.rows.Gathered.TheVariants.{All as Whole, More}

-- the header is in one of the boxes
abbrev pub is_in : List Box5 → Header → Bool
is_in boxes h = list_any (λ b. holds h b) boxes

-- a part of one of the boxes, aligned to the cuts there
pub record IsPartOf (cuts : CutLists) (boxes : List Box5) (part : Box5) : Type 0 where
  pub whole : Box5
  pub among : Contains boxes whole
  pub within : IsWithin part whole
  pub aligned : IsAligned cuts part whole

-- the other box goes on from the first, by p or by q, and both lie in one of the boxes
pub record GoesOnWithin (boxes : List Box5) (first other : Box5) : Type 0 where
  pub whole : Box5
  pub among : Contains boxes whole
  pub first_in : IsWithin first whole
  pub other_in : IsWithin other whole
  pub on : GoesOnEitherWay first other

-- disjoint parts of the boxes, each with the word of all its headers, by ascending low corners; no row could be one with the next in one of the boxes
pub record AreRowsOver {W : Type 0} (meaning : Header → Option W) (cuts : CutLists) (boxes : List Box5) (rows : List (Row W)) : Type 0 where
  pub parts : All (λ r. IsPartOf cuts boxes r.part) rows
  pub word : All (HasWord meaning) rows
  pub disjoint : AllPairs (λ a b. AreDisjoint a.part b.part) rows
  pub ascending : AllPairs (λ a b. IsBefore (low_of a.part) (low_of b.part)) rows
  pub joined : AreJoined (GoesOnWithin boxes) rows

-- how many cells the cuts make of the boxes
abbrev pub cells_over : CutLists → List Box5 → ℕ
cells_over cuts boxes = sum_by (cells_of cuts) boxes

-- at most room rows that hold every header that is told something; no more than there are cells, by any cuts that have all of these
pub record IsWholeOver {W : Type 0} (meaning : Header → Option W) (cuts : CutLists) (boxes : List Box5) (room : ℕ) (rows : List (Row W)) : Type 0 where
  pub rows_are : AreRowsOver meaning cuts boxes rows
  pub holds_all : (h : Header) → is_in boxes h ≡ true → meaning h ≢ None → is_covered rows h ≡ true
  pub few : length rows ≤ room
  pub cells : (all : CutLists) → AreAmong cuts all → length rows ≤ cells_over all boxes

-- the first header of the boxes that is told something and is in no row
pub record IsFirstLeftOut {W : Type 0} (meaning : Header → Option W) (boxes : List Box5) (rows : List (Row W)) (h : Header) : Type 0 where
  pub inside : is_in boxes h ≡ true
  pub told : meaning h ≢ None
  pub outside : is_covered rows h ≡ false
  pub first : (k : Header) → is_in boxes k ≡ true → IsBefore k h → meaning k ≢ None → is_covered rows k ≡ true

-- exactly room rows, each beginning before the first header that they leave out; and more cells than room, by any cuts that have all of these
pub record IsPartOver {W : Type 0} (meaning : Header → Option W) (cuts : CutLists) (boxes : List Box5) (room : ℕ) (rows : List (Row W)) (next : Header) : Type 0 where
  pub rows_are : AreRowsOver meaning cuts boxes rows
  pub count : length rows ≡ room
  pub next_is : IsFirstLeftOut meaning boxes rows next
  pub begun : All (λ r. IsBefore (low_of r.part) next) rows
  pub cells : (all : CutLists) → AreAmong cuts all → room < cells_over all boxes

-- what is gathered over the boxes in at most room rows
abbrev pub IsGatheredOver : {W : Type 0} → (Header → Option W) → CutLists → List Box5 → ℕ → Gathered W → Type 0
IsGatheredOver meaning cuts boxes room (Whole rows) = IsWholeOver meaning cuts boxes room rows.items
IsGatheredOver meaning cuts boxes room (More rows next) = IsPartOver meaning cuts boxes room rows.items next
