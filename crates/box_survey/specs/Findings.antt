-- What is found of boxes in the cells that were looked at.
use Rattle.std.specs.Prelude.{◌≡◌, ◌<◌, ◌≤◌, ◌⊎◌, Contains, IfSome, IsSome, IsSomeAnd, List, None, Option, Some, false, true, ℕ}
use Rattle.vpc_base.specs.Header.{IsBefore}
use Rattle.vpc_base.specs.declared.headers.Header.{Header}
use Rattle.std.specs.List.{list_any}
use Rattle.header_boxes.specs.Boxes.{holds}
use Rattle.header_boxes.specs.declared.boxes.Box5.{Box5}
use Rattle.box_survey.specs.Survey.{HoldsAt, ShareAt}
use Rattle.box_survey.specs.declared.findings.Findings.{Findings}

-- a header that matters and is in none of the boxes
pub record IsUncovered (matters : Header → Type 0) (boxes : List Box5) (h : Header) : Type 0 where
  pub matter : matters h
  pub outside : list_any (holds h) boxes ≡ false

-- the box of this number shares a header with that of a greater number
pub record OverlapsLater (boxes : List Box5) (i : ℕ) : Type 0 where
  pub later : ℕ
  pub after : i < later
  pub share : ShareAt boxes i later

-- what is found is there
pub record AreThere (matters : Header → Type 0) (boxes : List Box5) (found : Findings) : Type 0 where
  pub least : IfSome found.least (OverlapsLater boxes)
  pub outside : IfSome found.outside (IsUncovered matters boxes)

-- no number and no header that was found has become a greater one
pub record AreNoGreater (old new : Findings) : Type 0 where
  pub least : IfSome old.least (λ i. IsSomeAnd new.least (λ k. k ≤ i))
  pub outside : IfSome old.outside (λ h. IsSomeAnd new.outside (λ k. ¬ IsBefore h k))

-- of the overlaps at headers of the cell none has a lesser number; and if none is found, no uncovered header of the
-- cell comes before that which is found
pub record AreLeast (matters : Header → Type 0) (boxes : List Box5) (cell : Box5) (found : Findings) : Type 0 where
  pub overlaps : (h : Header) (a b : ℕ) → holds h cell ≡ true → a < b → HoldsAt boxes a h → HoldsAt boxes b h → IsSomeAnd found.least (λ k. k ≤ a)
  pub uncovered : (h : Header) → holds h cell ≡ true → IsUncovered matters boxes h → IsSome found.least ⊎ IsSomeAnd found.outside (λ k. ¬ IsBefore h k)

-- none of the cell's headers comes before the uncovered one that is found
abbrev pub IsPast : Findings → Box5 → Type 0
IsPast found cell = (h : Header) → holds h cell ≡ true → IsSomeAnd found.outside (λ k. ¬ IsBefore h k)

-- the first of these numbers whose box shares a header with that of a later one of them, if there is one
pub record IsFirstSharing (boxes : List Box5) (numbers : List ℕ) (found : Option ℕ) : Type 0 where
  pub later : IfSome found (OverlapsLater boxes)
  pub least : (a b : ℕ) → a < b → Contains numbers a → Contains numbers b → ShareAt boxes a b → IsSomeAnd found (λ k. k ≤ a)

-- what a comparison of boxes by these numbers adds to what was found: nothing, or the first number that shares a header
-- with a later one
pub data IsCompared (boxes : List Box5) (numbers : List ℕ) (old new : Findings) : Type 0 where
  apart : IsFirstSharing boxes numbers None → new ≡ old → IsCompared boxes numbers old new
  sharing : (number : ℕ) → IsFirstSharing boxes numbers (Some number)
      → IsSomeAnd new.least (λ k. (k ≤ number) × ((k ≡ number) ⊎ (old.least ≡ Some k)))
      → IfSome old.least (λ i. IsSomeAnd new.least (λ k. k ≤ i)) → new.outside ≡ old.outside → IsCompared boxes numbers old new

-- what a look at a cell adds to what was found
pub record IsSurveyed (matters : Header → Type 0) (boxes : List Box5) (cell : Box5) (old new : Findings) : Type 0 where
  pub there : AreThere matters boxes new
  pub kept : AreNoGreater old new
  pub least : AreLeast matters boxes cell new

-- what is found of all headers
pub record AreFindings (matters : Header → Type 0) (boxes : List Box5) (found : Findings) : Type 0 where
  pub there : AreThere matters boxes found
  pub overlaps : (a b : ℕ) → a < b → ShareAt boxes a b → IsSomeAnd found.least (λ k. k ≤ a)
  pub uncovered : (h : Header) → IsUncovered matters boxes h → IsSome found.least ⊎ IsSomeAnd found.outside (λ k. ¬ IsBefore h k)

-- the first number after i whose box shares a header with that of i
pub record IsNextSharing (boxes : List Box5) (i j : ℕ) : Type 0 where
  pub after : i < j
  pub share : ShareAt boxes i j
  pub first : (k : ℕ) → i < k → ShareAt boxes i k → j ≤ k
