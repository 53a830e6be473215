-- How a search for open numbers of q passes over the other sides.
use Rattle.std.specs.Prelude.{ℕ, ◌≡◌, ◌≢◌, ◌≤◌, ◌<◌, ◌+◌, ◌-◌, ◌*◌, ◌^◌, ◌⊎◌, ◌↔◌, Bool, true, List, Option, Some, None, All, AllPairs}
use Rattle.vpc_base.specs.declared.headers.Header.{Header}
use Rattle.header_boxes.specs.Boxes.{holds, IsWithin}
use Rattle.header_boxes.specs.declared.boxes.Box5.{Box5}
use Rattle.ordered_cover.specs.Ports.{IsOpenPort, is_in_ranges}

-- a number below the side is passed; one that isn't above it, where that is said of the sides inside it
abbrev pub IsSidePassed : ℕ × ℕ → ℕ → Type 0 → Type 0
IsSidePassed side x inner = (x < side.0) ⊎ ((x ≤ side.1) × inner)

-- the search that goes on with this box has passed the header: by protocol, then source, destination and p
abbrev pub IsPassed : Box5 → Header → Type 0
IsPassed next h = IsSidePassed next.proto h.proto (IsSidePassed next.src h.src (IsSidePassed next.dst h.dst (h.p < next.p.0)))

-- where the search goes on after a part: at the part's next p; where there is none, at its next destination; and so on
pub data IsAfter (sides part : Box5) : Option Box5 → Type 0 where
  at_p : part.p.1 < sides.p.1
      → IsAfter sides part (Some (record { proto = part.proto; src = part.src; dst = part.dst; p = (part.p.1 + 1, sides.p.1); q = part.q }))
  at_dst : part.p.1 ≡ sides.p.1 → part.dst.1 < sides.dst.1
      → IsAfter sides part (Some (record { proto = part.proto; src = part.src; dst = (part.dst.1 + 1, sides.dst.1); p = sides.p; q = part.q }))
  at_src : part.p.1 ≡ sides.p.1 → part.dst.1 ≡ sides.dst.1 → part.src.1 < sides.src.1
      → IsAfter sides part (Some (record { proto = part.proto; src = (part.src.1 + 1, sides.src.1); dst = sides.dst; p = sides.p; q = part.q }))
  at_proto : part.p.1 ≡ sides.p.1 → part.dst.1 ≡ sides.dst.1 → part.src.1 ≡ sides.src.1 → part.proto.1 < sides.proto.1
      → IsAfter sides part (Some (record { proto = (part.proto.1 + 1, sides.proto.1); src = sides.src; dst = sides.dst; p = sides.p; q = part.q }))
  at_end : part.p.1 ≡ sides.p.1 → part.dst.1 ≡ sides.dst.1 → part.src.1 ≡ sides.src.1 → part.proto.1 ≡ sides.proto.1 → IsAfter sides part None

-- the search goes on with this box: up to its last q, no header of the sides that was passed gets through
pub record IsAsking {W : Type 0} (meaning : Header → Option W) (sides next : Box5) : Type 0 where
  pub within : IsWithin next sides
  pub begins : next.q.0 ≡ sides.q.0
  pub closed : (h : Header) → holds h sides ≡ true → h.q ≤ next.q.1 → IsPassed next h → meaning h ≢ None

-- what lies ahead of a header in the sides but q, as a number
abbrev pub ahead : Box5 → Header → ℕ
ahead sides h =
    (sides.proto.1 - h.proto) * 2 ^ 80
    + ((sides.src.1 - h.src) * 2 ^ 48
    + ((sides.dst.1 - h.dst) * 2 ^ 16
    + (sides.p.1 - h.p)))

-- up to a last one, the numbers from the first q of the sides on are all open, or none is
pub record AreDecided {W : Type 0} (meaning : Header → Option W) (sides : Box5) (last : ℕ) (are_open : Bool) : Type 0 where
  pub begins : sides.q.0 ≤ last
  pub ends : last ≤ sides.q.1
  pub each : (q : ℕ) → sides.q.0 ≤ q → q ≤ last → (are_open ≡ true) ↔ IsOpenPort meaning sides q

-- ranges that ascend, no two of which touch, all of them below n
pub record AreRangesBelow (n : ℕ) (ranges : List (ℕ × ℕ)) : Type 0 where
  pub proper : All (λ r. r.0 ≤ r.1) ranges
  pub ascending : AllPairs (λ a b. a.1 + 1 < b.0) ranges
  pub below : All (λ r. r.1 < n) ranges

-- the sides from some q on are left, and the ranges hold the open numbers below that
pub record AreOpenBelow {W : Type 0} (meaning : Header → Option W) (sides left : Box5) (ranges : List (ℕ × ℕ)) : Type 0 where
  pub proto : left.proto ≡ sides.proto
  pub src : left.src ≡ sides.src
  pub dst : left.dst ≡ sides.dst
  pub p : left.p ≡ sides.p
  pub begins : sides.q.0 ≤ left.q.0
  pub some : left.q.0 ≤ left.q.1
  pub ends : left.q.1 ≡ sides.q.1
  pub ranges_are : AreRangesBelow left.q.0 ranges
  pub hold : (q : ℕ) → (is_in_ranges ranges q ≡ true) ↔ ((q < left.q.0) × IsOpenPort meaning sides q)
