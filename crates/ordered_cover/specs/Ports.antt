-- Which numbers of the side q are open: some header with that q gets through.
use Rattle.std.specs.Prelude.{ℕ, ◌≡◌, ◌≤◌, ◌<◌, ◌+◌, ◌↔◌, Bool, true, List, Option, None, All, AllPairs}
use Rattle.std.specs.List.{list_any}
use Rattle.vpc_base.specs.declared.headers.Header.{Header}
use Rattle.header_boxes.specs.Boxes.{holds, in_range}
use Rattle.header_boxes.specs.declared.boxes.Box5.{Box5}

-- some header of the sides with this q gets through
pub record IsOpenPort {W : Type 0} (meaning : Header → Option W) (sides : Box5) (q : ℕ) : Type 0 where
  pub header : Header
  pub inside : holds header sides ≡ true
  pub port : header.q ≡ q
  pub through : meaning header ≡ None

-- the number is in one of the closed ranges
abbrev pub is_in_ranges : List (ℕ × ℕ) → ℕ → Bool
is_in_ranges ranges q = list_any (λ r. in_range r q) ranges

-- ranges that ascend, no two of which touch, and that hold exactly the open numbers
pub record AreOpenPorts {W : Type 0} (meaning : Header → Option W) (sides : Box5) (ranges : List (ℕ × ℕ)) : Type 0 where
  pub proper : All (λ r. r.0 ≤ r.1) ranges
  pub ascending : AllPairs (λ a b. a.1 + 1 < b.0) ranges
  pub hold : (q : ℕ) → (is_in_ranges ranges q ≡ true) ↔ IsOpenPort meaning sides q
