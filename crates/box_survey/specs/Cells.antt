-- Cells of headers, and the numbers of the boxes that share a header with one.
use Rattle.std.specs.Prelude.{◌≡◌, ◌<◌, ◌&&◌, ◌⊎◌, ◌+◌, All, Bool, Contains, List, None, Option, Some, false, max, min, nat_le, slice_get, true, ℕ}
use Rattle.std.specs.List.Sorted.{IsStrictlyIncreasing}
use Rattle.vpc_base.specs.declared.headers.Header.{Header}
use Rattle.header_boxes.specs.Boxes.{IsValid, holds, width}
use Rattle.header_boxes.specs.declared.boxes.Box5.{Box5}
use Rattle.box_survey.specs.Survey.{HoldsAt}

-- the two ranges share a number
abbrev pub do_ranges_meet : ℕ × ℕ → ℕ × ℕ → Bool
do_ranges_meet a b = nat_le (max a.0 b.0) (min a.1 b.1)

-- the two boxes share a header
abbrev pub do_meet : Box5 → Box5 → Bool
do_meet a b =
    do_ranges_meet a.proto b.proto && (do_ranges_meet a.src b.src && (do_ranges_meet a.dst b.dst && (do_ranges_meet a.p b.p && do_ranges_meet a.q b.q)))

-- there is a box, and it shares a header with the cell
abbrev pub does_some_meet : Box5 → Option Box5 → Bool
does_some_meet cell None = false
does_some_meet cell (Some b) = do_meet b cell

-- the box of this number shares a header with the cell
abbrev pub meets_at : List Box5 → Box5 → ℕ → Bool
meets_at boxes cell i = does_some_meet cell (slice_get boxes i)

-- ascending numbers, among them those of all boxes that share a header with the cell
pub record AreCandidates (boxes : List Box5) (cell : Box5) (numbers : List ℕ) : Type 0 where
  pub ascending : IsStrictlyIncreasing numbers
  pub all : (i : ℕ) → meets_at boxes cell i ≡ true → Contains numbers i

-- the ascending numbers of the boxes that share a header with the cell
pub record AreMeeting (boxes : List Box5) (cell : Box5) (numbers : List ℕ) : Type 0 where
  pub candidates : AreCandidates boxes cell numbers
  pub each : All (λ i. meets_at boxes cell i ≡ true) numbers

-- the box of this number holds the whole cell
abbrev pub HoldsCell : List Box5 → Box5 → ℕ → Type 0
HoldsCell boxes cell i = (h : Header) → holds h cell ≡ true → HoldsAt boxes i h

-- the sum of the widths of the sides
abbrev pub extent_of : Box5 → ℕ
extent_of b = width b.proto + (width b.src + (width b.dst + (width b.p + width b.q)))

-- each header of the cell is in one of two narrower cells, which hold no other headers
pub record AreHalves (cell low high : Box5) : Type 0 where
  pub low_within : (h : Header) → holds h low ≡ true → holds h cell ≡ true
  pub high_within : (h : Header) → holds h high ≡ true → holds h cell ≡ true
  pub both : (h : Header) → holds h cell ≡ true → (holds h low ≡ true) ⊎ (holds h high ≡ true)
  pub low_narrower : extent_of low < extent_of cell
  pub high_narrower : extent_of high < extent_of cell
  pub low_valid : IsValid cell → IsValid low
  pub high_valid : IsValid cell → IsValid high

-- the first range holds the second
abbrev pub holds_range : ℕ × ℕ → ℕ × ℕ → Bool
holds_range r s = nat_le r.0 s.0 && nat_le s.1 r.1

-- each side of the box holds that of the cell
abbrev pub holds_sides : Box5 → Box5 → Bool
holds_sides b cell =
    holds_range b.proto cell.proto && (holds_range b.src cell.src && (holds_range b.dst cell.dst && (holds_range b.p cell.p && holds_range b.q cell.q)))
