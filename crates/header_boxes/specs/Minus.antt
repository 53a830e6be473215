-- What is left of a box without a part.
use Rattle.std.specs.Prelude.{ℕ, ◌≡◌, ◌+◌, ◌⊎◌}
use Rattle.header_boxes.specs.declared.boxes.Box5.{Box5}

-- a side begins where whole or part begins or one past the part's end, and ends where they end or one before the part begins
pub record HasSideOf (whole part side : ℕ × ℕ) : Type 0 where
  pub begins : (side.0 ≡ whole.0) ⊎ (side.0 ≡ part.0) ⊎ (side.0 ≡ part.1 + 1)
  pub ends : (side.1 ≡ whole.1) ⊎ (side.1 ≡ part.1) ⊎ (side.1 + 1 ≡ part.0)

-- all sides of the box begin and end so
pub record HasSidesOf (whole part b : Box5) : Type 0 where
  pub proto : HasSideOf whole.proto part.proto b.proto
  pub src : HasSideOf whole.src part.src b.src
  pub dst : HasSideOf whole.dst part.dst b.dst
  pub p : HasSideOf whole.p part.p b.p
  pub q : HasSideOf whole.q part.q b.q
