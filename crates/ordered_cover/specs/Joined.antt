-- Rows that could be one.
use Rattle.std.specs.Prelude.{◌≡◌, ◌+◌, ◌⊎◌, List, length}
use Rattle.std.specs.List.{AllAdjacentBelow}
use Rattle.header_boxes.specs.declared.boxes.Box5.{Box5}
use Rattle.header_boxes.specs.declared.rows.Row.{Row}

-- the other box has the sides of the first, but that it begins one past the last q of that
pub record GoesOn (first other : Box5) : Type 0 where
  pub proto : first.proto ≡ other.proto
  pub src : first.src ≡ other.src
  pub dst : first.dst ≡ other.dst
  pub p : first.p ≡ other.p
  pub q : first.q.1 + 1 ≡ other.q.0

-- the other box has the sides of the first, but that it begins one past the last p of that
pub record GoesOnInP (first other : Box5) : Type 0 where
  pub proto : first.proto ≡ other.proto
  pub src : first.src ≡ other.src
  pub dst : first.dst ≡ other.dst
  pub p : first.p.1 + 1 ≡ other.p.0
  pub q : first.q ≡ other.q

-- by one of the two
abbrev pub GoesOnEitherWay : Box5 → Box5 → Type 0
GoesOnEitherWay first other = GoesOn first other ⊎ GoesOnInP first other

-- the second row has the word of the first, and goes on from it
abbrev pub CanJoin : {W : Type 0} → (Box5 → Box5 → Type 0) → Row W → Row W → Type 0
CanJoin On first other = On first.part other.part × (first.word ≡ other.word)

-- no row could be one with the next
abbrev pub AreJoined : {W : Type 0} → (Box5 → Box5 → Type 0) → List (Row W) → Type 0
AreJoined On rows = AllAdjacentBelow (λ first other. ¬ (CanJoin On first other)) rows (length rows)
