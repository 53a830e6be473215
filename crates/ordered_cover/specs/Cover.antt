-- What a cover answers, over a meaning that gives each header a word or lets it through.
use Rattle.std.specs.Prelude.{ℕ, ◌≡◌, ◌≢◌, ◌≤◌, ◌<◌, true, List, Option, None, All, length}
use Rattle.vpc_base.specs.Header.{IsBefore}
use Rattle.vpc_base.specs.Cuts.{AreAmong, CutLists}
use Rattle.vpc_base.specs.declared.headers.Header.{Header}
use Rattle.header_boxes.specs.Boxes.{holds, low_of}
use Rattle.header_boxes.specs.Cells.{cells_of}
use Rattle.header_boxes.specs.Rows.{IsFirstThrough, AreTrueRows, AreOrdered, AreWhole, IsFirstOutside, NoneThrough}
use Rattle.header_boxes.specs.declared.boxes.Box5.{Box5}
use Rattle.header_boxes.specs.declared.rows.Row.{Row}
use Rattle.ordered_cover.specs.Joined.{AreJoined, GoesOnEitherWay}
use Rattle.ordered_cover.specs.declared.rows.Cover.{Cover}
use Rattle.ordered_cover.specs.declared.rows.Cover.TheVariants.{Found, Blocked, More}
use Rattle.ordered_cover.specs.declared.rows.Searched.{Searched}
use Rattle.ordered_cover.specs.declared.rows.Searched.TheVariants as searches

-- at most max ordered true rows that hold every header; none of them could be one with the next, by p or by q
pub record IsBlocked {W : Type 0} (meaning : Header → Option W) (cuts : CutLists) (sides : Box5) (max : ℕ) (rows : List (Row W)) : Type 0 where
  pub are_true : AreTrueRows meaning sides rows
  pub ordered : AreOrdered cuts sides rows
  pub whole : AreWhole sides rows
  pub few : length rows ≤ max
  pub joined : AreJoined GoesOnEitherWay rows

-- exactly max ordered true rows, of which none could be one with the next where boxes go on as in On; the first header outside them, which comes after each row's low corner; and more cells than max, by any cuts that have all of these
pub record IsMore {W : Type 0} (On : Box5 → Box5 → Type 0) (meaning : Header → Option W) (cuts : CutLists) (sides : Box5) (max : ℕ) (rows : List (Row W)) (next : Header) : Type 0 where
  pub are_true : AreTrueRows meaning sides rows
  pub ordered : AreOrdered cuts sides rows
  pub count : length rows ≡ max
  pub joined : AreJoined On rows
  pub outside : IsFirstOutside sides rows next
  pub begun : All (λ r. IsBefore (low_of r.part) next) rows
  pub clear : (h : Header) → holds h sides ≡ true → IsBefore h next → meaning h ≢ None
  pub cells : (all : CutLists) → AreAmong cuts all → max < cells_of all sides

-- what a cover with at most max rows answers
abbrev pub IsCover : {W : Type 0} → (Header → Option W) → CutLists → Box5 → ℕ → Cover W → Type 0
IsCover meaning cuts sides max (Found h) = IsFirstThrough meaning sides h
IsCover meaning cuts sides max (Blocked rows) = IsBlocked meaning cuts sides max rows.items
IsCover meaning cuts sides max (More rows next) = IsMore GoesOnEitherWay meaning cuts sides max rows.items next

-- what a search of some parts answers: nothing where it didn't come to an end
abbrev pub IsSearched : {W : Type 0} → (Header → Option W) → Box5 → Searched → Type 0
IsSearched meaning sides (searches.Found h) = IsFirstThrough meaning sides h
IsSearched meaning sides searches.Blocked = NoneThrough meaning sides
IsSearched meaning sides searches.Unfinished = Unit {0}
