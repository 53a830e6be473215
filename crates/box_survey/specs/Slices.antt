-- Boxes that slice a cell: each is as wide as the cell on all sides but one, on which it begins where the one before it ends.
use Rattle.std.specs.Prelude.{◌≡◌, ◌+◌, ◌==◌, ◌&&◌, ◌∷◌, [], Bool, Contains, List, None, Option, Some, false, if◌then◌else◌, max, nat_le, nat_lt, slice_get, true, ℕ}
use Rattle.vpc_base.specs.declared.headers.Header.{Header}
use Rattle.header_boxes.specs.Boxes.{holds}
use Rattle.header_boxes.specs.declared.boxes.Box5.{Box5}
use Rattle.box_survey.specs.Cells.{holds_sides}
use Rattle.box_survey.specs.Cuts.{range_on, with_range}
use Rattle.box_survey.specs.Survey.{HoldsAt}
use Rattle.box_survey.specs.declared.sides.Side.{Side}

-- the box holds the cell on all other sides, and what it shares with the cell begins there on this one
abbrev pub is_slice : Side → Box5 → ℕ → Box5 → Bool
is_slice s cell from b =
    holds_sides (with_range s b (range_on s cell)) cell && ((max (range_on s b).0 (range_on s cell).0 == from) && nat_le from (range_on s b).1)

-- where the slice after this one begins
abbrev pub next_slice : Side → Box5 → ℕ → Option Box5 → Option ℕ
next_slice s cell from None = None
next_slice s cell from (Some b) = if is_slice s cell from b then Some ((range_on s b).1 + 1) else None

abbrev pub is_some_and : Option ℕ → (ℕ → Bool) → Bool
is_some_and None test = false
is_some_and (Some n) test = test n

-- the boxes of these numbers slice the cell from there on
abbrev pub slice_from : List Box5 → Side → Box5 → ℕ → List ℕ → Bool
slice_from boxes s cell from [] = nat_lt (range_on s cell).1 from
slice_from boxes s cell from (i ∷ rest) = is_some_and (next_slice s cell from (slice_get boxes i)) (λ next. slice_from boxes s cell next rest)

-- one of these boxes holds the header
pub record IsHeldAmong (boxes : List Box5) (numbers : List ℕ) (h : Header) : Type 0 where
  pub number : ℕ
  pub among : Contains numbers number
  pub held : HoldsAt boxes number h

-- each header of the cell is in one box of these numbers, and in one alone
pub record AreSlices (boxes : List Box5) (cell : Box5) (numbers : List ℕ) : Type 0 where
  pub held : (h : Header) → holds h cell ≡ true → IsHeldAmong boxes numbers h
  pub apart : (h : Header) (a b : ℕ) → holds h cell ≡ true → Contains numbers a → Contains numbers b → HoldsAt boxes a h → HoldsAt boxes b h → a ≡ b
