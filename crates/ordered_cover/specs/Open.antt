-- Boxes that a search has still to ask.
use Rattle.std.specs.Prelude.{ℕ, ◌≡◌, ◌≤◌, ◌+◌, Bool, true, List, ◌∷◌, ◌++◌, Option, All, cond, is_some, sum_by}
use Rattle.std.specs.List.Sorted.{IsPermutation}
use Rattle.vpc_base.specs.Header.{IsBefore}
use Rattle.vpc_base.specs.Cuts.{CutLists}
use Rattle.vpc_base.specs.declared.headers.Header.{Header}
use Rattle.header_boxes.specs.Boxes.{holds, IsWithin, low_of, volume_of}
use Rattle.header_boxes.specs.Cells.{IsAligned}
use Rattle.header_boxes.specs.declared.boxes.Box5.{Box5}
use Rattle.header_boxes.specs.Rows.{AreTrueRows, AreOrdered}
use Rattle.header_boxes.specs.declared.rows.Row.{Row}
use Rattle.ordered_cover.specs.Beside.{beside}

-- 1 for true, 0 for false
abbrev pub one_if : Bool → ℕ
one_if b = cond b 1 0

-- how many of the boxes hold the header
abbrev pub holders : List Box5 → Header → ℕ
holders boxes h = sum_by (λ b. one_if (holds h b)) boxes

-- how many of the rows hold the header
abbrev pub row_holders : {W : Type 0} → List (Row W) → Header → ℕ
row_holders rows h = sum_by (λ r. one_if (holds h r.part)) rows

-- no box begins before b
abbrev pub IsLeast : Box5 → List Box5 → Type 0
IsLeast b boxes = All (λ o. ¬ (IsBefore (low_of o) (low_of b))) boxes

-- the pieces hold what the whole holds outside the part, each header once, and begin after the part
pub record AreRest (cuts : CutLists) (whole part : Box5) (pieces : List Box5) : Type 0 where
  pub each : (h : Header) → holders pieces h + one_if (holds h part) ≡ one_if (holds h whole)
  pub within : All (λ b. IsWithin b whole) pieces
  pub aligned : All (λ b. IsAligned cuts b whole) pieces
  pub after : All (λ b. IsBefore (low_of part) (low_of b)) pieces
  pub volume : sum_by volume_of pieces + volume_of part ≡ volume_of whole

-- the open box that begins first was asked: all headers of a part that begins there have the word, and the rest of the box stays open
pub record IsAsked {W : Type 0} (meaning : Header → Option W) (cuts : CutLists) (old new : List Box5) (part : Box5) (word : Option W) : Type 0 where
  pub whole : Box5
  pub others : List Box5
  pub pieces : List Box5
  pub taken : IsPermutation old (whole ∷ others)
  pub least : IsLeast whole old
  pub within : IsWithin part whole
  pub low : low_of part ≡ low_of whole
  pub aligned : IsAligned cuts part whole
  pub means : (h : Header) → holds h part ≡ true → meaning h ≡ word
  pub pieces_are : pieces ≡ beside whole part
  pub rest : AreRest cuts whole part pieces
  pub left : IsPermutation (others ++ pieces) new

-- every header
abbrev pub every : Header → Bool
every h = true

-- the headers that are told something
abbrev pub told : {W : Type 0} → (Header → Option W) → Header → Bool
told meaning h = is_some (meaning h)

-- ordered true rows and open boxes that begin after them hold each header of the sides at most once, those that are sought once, and no other header
pub record AreSplit {W : Type 0} (meaning : Header → Option W) (cuts : CutLists) (sought : Header → Bool) (sides : Box5) (open_boxes : List Box5) (rows : List (Row W)) : Type 0 where
  pub are_true : AreTrueRows meaning sides rows
  pub ordered : AreOrdered cuts sides rows
  pub once : (h : Header) → holders open_boxes h + row_holders rows h ≤ one_if (holds h sides)
  pub all : (h : Header) → holds h sides ≡ true → sought h ≡ true → 1 ≤ holders open_boxes h + row_holders rows h
  pub within : All (λ b. IsWithin b sides) open_boxes
  pub aligned : All (λ b. IsAligned cuts b sides) open_boxes
  pub begun : All (λ r. All (λ b. IsBefore (low_of r.part) (low_of b)) open_boxes) rows

-- some rows and the open boxes split the sides
pub record AreSplitBySome {W : Type 0} (meaning : Header → Option W) (cuts : CutLists) (sides : Box5) (open_boxes : List Box5) : Type 0 where
  pub rows : List (Row W)
  pub split : AreSplit meaning cuts every sides open_boxes rows
