-- How rows are joined.
use Rattle.std.specs.Prelude.{◌≡◌, Bool, List, [], ◌∷◌, ◌++◌, Option}
use Rattle.vpc_base.specs.Cuts.{CutLists}
use Rattle.vpc_base.specs.declared.headers.Header.{Header}
use Rattle.header_boxes.specs.declared.boxes.Box5.{Box5}
use Rattle.header_boxes.specs.declared.rows.Row.{Row}
use Rattle.ordered_cover.specs.Joined.{CanJoin, GoesOn, GoesOnEitherWay}
use Rattle.ordered_cover.specs.Open.{AreSplit}
use Rattle.ordered_cover.specs.declared.joining.Along.{Along}
use Rattle.ordered_cover.specs.declared.joining.Along.TheVariants as along

-- along which sides a box may go on from another one
abbrev pub GoesOnBy : Along → Box5 → Box5 → Type 0
GoesOnBy along.Q = GoesOn
GoesOnBy along.PAndQ = GoesOnEitherWay

-- the box as far as the last p and q of the other
abbrev pub span : Box5 → Box5 → Box5
span first other = record { proto = first.proto; src = first.src; dst = first.dst; p = (first.p.0, other.p.1); q = (first.q.0, other.q.1) }

-- two rows as one
abbrev pub joined_row : {W : Type 0} → Row W → Row W → Row W
joined_row first other = record { part = span first.part other.part; word = first.word }

-- the last of the rows and one that goes on from it are one
pub record IsOneWithLast {W : Type 0} (On : Box5 → Box5 → Type 0) (rows : List (Row W)) (row new : Row W) : Type 0 where
  pub before : List (Row W)
  pub last : Row W
  pub ended : rows ≡ before ++ last ∷ []
  pub can : CanJoin On last row
  pub new_is : new ≡ joined_row last row

-- what the old rows and some open boxes split, the new rows and these boxes split
abbrev pub KeepsSplit : {W : Type 0} → List (Row W) → List (Row W) → Type 0
KeepsSplit {W} old new =
    (meaning : Header → Option W) (cuts : CutLists) (sought : Header → Bool) (sides : Box5) (open_boxes : List Box5)
    → AreSplit meaning cuts sought sides open_boxes old → AreSplit meaning cuts sought sides open_boxes new
