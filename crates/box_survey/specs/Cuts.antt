-- Where a cell may be cut in two.
use Rattle.std.specs.Prelude.{◌≡◌, ◌<◌, ◌≤◌, ◌+◌, ◌&&◌, ◌++◌, ◌∷◌, All, IsSomeAnd, List, [], if◌then◌else◌, nat_le, nat_lt, slice_get, ℕ}
use Rattle.header_boxes.specs.declared.boxes.Box5.{Box5}
use Rattle.header_boxes.specs.Rest.{with_dst, with_p, with_proto, with_q, with_src}
use Rattle.box_survey.specs.declared.sides.Cut.{Cut}
use Rattle.box_survey.specs.declared.sides.Side.{Side}
use Rattle.box_survey.specs.declared.sides.Side.TheVariants as side

-- the range of one side
abbrev pub range_on : Side → Box5 → ℕ × ℕ
range_on side.Proto b = b.proto
range_on side.Src b = b.src
range_on side.Dst b = b.dst
range_on side.P b = b.p
range_on side.Q b = b.q

-- the box with another range on one side
abbrev pub with_range : Side → Box5 → ℕ × ℕ → Box5
with_range side.Proto b r = with_proto b r
with_range side.Src b r = with_src b r
with_range side.Dst b r = with_dst b r
with_range side.P b r = with_p b r
with_range side.Q b r = with_q b r

-- a cut divides the range between the number before it and itself
abbrev pub Divides : ℕ × ℕ → ℕ → Type 0
Divides r at = (r.0 < at) × (at ≤ r.1)

-- what the cut divides of the cell
abbrev pub IsCutOf : Box5 → Cut → Type 0
IsCutOf cell cut = Divides (range_on cut.side cell) cut.at

-- the cuts of a range where another one begins or has ended
abbrev pub ends_inside : ℕ × ℕ → ℕ × ℕ → List ℕ
ends_inside r other =
    (if nat_lt r.0 other.0 && nat_le other.0 r.1 then other.0 ∷ [] else [])
    ++ (if nat_le r.0 other.1 && nat_lt other.1 r.1 then (other.1 + 1) ∷ [] else [])

-- the box of this number has a range on the side that holds the whole range
abbrev pub HoldsRange : List Box5 → Side → ℕ × ℕ → ℕ → Type 0
HoldsRange boxes s r i = IsSomeAnd (slice_get boxes i) (λ b. ((range_on s b).0 ≤ r.0) × (r.1 ≤ (range_on s b).1))

-- cuts of the side of the cell; where there is none, that side of each box holds that of the cell
pub record AreEnds (boxes : List Box5) (cell : Box5) (s : Side) (numbers ends : List ℕ) : Type 0 where
  pub cuts : All (Divides (range_on s cell)) ends
  pub none : ends ≡ [] → All (HoldsRange boxes s (range_on s cell)) numbers
