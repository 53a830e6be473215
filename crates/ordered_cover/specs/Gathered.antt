-- What is gathered, over a meaning that tells some headers a word and others nothing.
use Rattle.std.specs.Prelude.{ℕ, ◌≡◌, ◌≢◌, ◌≤◌, ◌<◌, true, false, List, Option, None, All, length}
use Rattle.vpc_base.specs.Header.{IsBefore}
use Rattle.vpc_base.specs.Cuts.{AreAmong, CutLists}
use Rattle.vpc_base.specs.declared.headers.Header.{Header}
use Rattle.header_boxes.specs.Boxes.{holds, low_of}
use Rattle.header_boxes.specs.Cells.{cells_of}
use Rattle.header_boxes.specs.Rows.{AreTrueRows, AreOrdered, is_covered}
use Rattle.header_boxes.specs.declared.boxes.Box5.{Box5}
use Rattle.header_boxes.specs.declared.rows.Row.{Row}
use Rattle.ordered_cover.specs.Joined.{AreJoined, GoesOnEitherWay}
use Rattle.ordered_cover.specs.declared.rows.Gathered.{Gathered}
use Rattle.ordered_cover.specs.declared.rows.Gathered.TheVariants as gathered

-- at most room ordered true rows that hold every header that is told something; none of them could be one with the next, by p or by q
pub record HoldAllTold {W : Type 0} (meaning : Header → Option W) (cuts : CutLists) (sides : Box5) (room : ℕ) (rows : List (Row W)) : Type 0 where
  pub are_true : AreTrueRows meaning sides rows
  pub ordered : AreOrdered cuts sides rows
  pub joined : AreJoined GoesOnEitherWay rows
  pub all : (h : Header) → holds h sides ≡ true → meaning h ≢ None → is_covered rows h ≡ true
  pub few : length rows ≤ room

-- the first header of the whole that is told something and is in no row
pub record IsFirstLeftOut {W : Type 0} (meaning : Header → Option W) (sides : Box5) (rows : List (Row W)) (h : Header) : Type 0 where
  pub inside : holds h sides ≡ true
  pub told : meaning h ≢ None
  pub outside : is_covered rows h ≡ false
  pub first : (k : Header) → holds k sides ≡ true → IsBefore k h → meaning k ≢ None → is_covered rows k ≡ true

-- exactly room such rows, and the first header that they leave out, which comes after each row's low corner; and more cells than room, by any cuts that have all of these
pub record LeaveSomeOut {W : Type 0} (meaning : Header → Option W) (cuts : CutLists) (sides : Box5) (room : ℕ) (rows : List (Row W)) (next : Header) : Type 0 where
  pub are_true : AreTrueRows meaning sides rows
  pub ordered : AreOrdered cuts sides rows
  pub joined : AreJoined GoesOnEitherWay rows
  pub count : length rows ≡ room
  pub left_out : IsFirstLeftOut meaning sides rows next
  pub begun : All (λ r. IsBefore (low_of r.part) next) rows
  pub cells : (all : CutLists) → AreAmong cuts all → room < cells_of all sides

-- what is gathered in at most room rows
abbrev pub IsGathered : {W : Type 0} → (Header → Option W) → CutLists → Box5 → ℕ → Gathered W → Type 0
IsGathered meaning cuts sides room (gathered.All rows) = HoldAllTold meaning cuts sides room rows.items
IsGathered meaning cuts sides room (gathered.More rows next) = LeaveSomeOut meaning cuts sides room rows.items next
