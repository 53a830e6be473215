-- Which of some boxes share a header, and which header that matters is in none of them. Boxes are numbered from 0.
use Rattle.std.specs.Prelude.{◌<◌, ◌⊎◌, ◌≡◌, ◌≤◌, AllPairs, IsSomeAnd, List, None, Option, Some, false, slice_get, true, ℕ}
use Rattle.std.specs.List.{list_any}
use Rattle.vpc_base.specs.Header.{IsBefore}
use Rattle.vpc_base.specs.declared.headers.Header.{Header}
use Rattle.header_boxes.specs.Boxes.{AreDisjoint, holds}
use Rattle.header_boxes.specs.declared.boxes.Box5.{Box5}
use Rattle.box_survey.specs.declared.survey.Survey.{Survey}
use Rattle.box_survey.specs.declared.survey.Survey.TheVariants as found

-- the box of this number holds the header
abbrev pub HoldsAt : List Box5 → ℕ → Header → Type 0
HoldsAt boxes i h = IsSomeAnd (slice_get boxes i) (λ b. holds h b ≡ true)

-- the boxes of two numbers share a header
pub record ShareAt (boxes : List Box5) (i j : ℕ) : Type 0 where
  pub header : Header
  pub first : HoldsAt boxes i header
  pub second : HoldsAt boxes j header

-- the first pair of boxes that share a header: by the first number, then by the second
pub record IsLeastOverlap (boxes : List Box5) (i j : ℕ) : Type 0 where
  pub below : i < j
  pub share : ShareAt boxes i j
  pub least : (a b : ℕ) → a < b → ShareAt boxes a b → (i < a) ⊎ ((i ≡ a) × (j ≤ b))

-- ---- headers that matter

-- each header of a box
abbrev pub IsHeldIn : Box5 → Header → Type 0
IsHeldIn whole h = holds h whole ≡ true

-- the first header of a gap that matters
pub record IsFirstIn (matters : Header → Type 0) (gap : Box5) (h : Header) : Type 0 where
  pub inside : holds h gap ≡ true
  pub matter : matters h
  pub first : (k : Header) → holds k gap ≡ true → IsBefore k h → ¬ (matters k)

-- the first one, if there is one
abbrev pub IsFirstMattering : (Header → Type 0) → Box5 → Option Header → Type 0
IsFirstMattering matters gap None = (h : Header) → holds h gap ≡ true → ¬ (matters h)
IsFirstMattering matters gap (Some h) = IsFirstIn matters gap h

-- ---- what is found

-- the first header that matters and is in none of the boxes
pub record IsFirstUncovered (matters : Header → Type 0) (boxes : List Box5) (h : Header) : Type 0 where
  pub matter : matters h
  pub outside : list_any (holds h) boxes ≡ false
  pub first : (k : Header) → matters k → IsBefore k h → list_any (holds k) boxes ≡ true

-- each header that matters is in one of the boxes
abbrev pub HoldAll : (Header → Type 0) → List Box5 → Type 0
HoldAll matters boxes = (h : Header) → matters h → list_any (holds h) boxes ≡ true

-- the first of these that is so
abbrev pub IsSurvey : (Header → Type 0) → List Box5 → Survey → Type 0
IsSurvey matters boxes (found.Overlap i j) = IsLeastOverlap boxes i j
IsSurvey matters boxes (found.Uncovered h) = AllPairs AreDisjoint boxes × IsFirstUncovered matters boxes h
IsSurvey matters boxes found.Whole = AllPairs AreDisjoint boxes × HoldAll matters boxes
