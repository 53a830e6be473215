-- Sides of addresses, and the boxes of requests between them.
use Rattle.std.specs.List.{list_any}
use Rattle.std.specs.Prelude.{◌≡◌, ◌≤◌, ◌<◌, ◌+◌, ◌↔◌, ◌⊎◌, AllPairs, Bool, Contains, List, false, true, ℕ}
use Rattle.address_sets.specs.declared.sets.Run.{Run}
use Rattle.header_boxes.specs.declared.boxes.Box5.{Box5}
use Rattle.prefix_text.specs.Block.{Block, holds}
use Rattle.query_words.specs.declared.reaches.ReachPairs.{ReachPairs}

-- one address
abbrev pub alone : ℕ → ℕ × ℕ
alone a = (a, a)

-- the addresses of a run
abbrev pub side_of : Run → ℕ × ℕ
side_of r = (r.first, r.last)

-- ---- addresses and blocks

-- one of the blocks holds the address
abbrev pub is_held : List Block → ℕ → Bool
is_held blocks a = list_any (holds a) blocks

-- one of the addresses, which no block holds
pub record IsLone (addresses : List ℕ) (blocks : List Block) (side : ℕ × ℕ) : Type 0 where
  pub among : Contains addresses side.0
  pub free : is_held blocks side.0 ≡ false
  pub one : side.1 ≡ side.0

-- blocks hold each address from the first to the last, and neither the one before them nor the one after them
pub record IsWholeRun (blocks : List Block) (side : ℕ × ℕ) : Type 0 where
  pub some : side.0 ≤ side.1
  pub held : (a : ℕ) → side.0 ≤ a → a ≤ side.1 → is_held blocks a ≡ true
  pub before : (a : ℕ) → a + 1 ≡ side.0 → is_held blocks a ≡ false
  pub after : is_held blocks (side.1 + 1) ≡ false

-- in ascending order: each address that no block holds, alone, and the runs of what blocks hold
pub record AreSidesOf (addresses : List ℕ) (blocks : List Block) (sides : List (ℕ × ℕ)) : Type 0 where
  pub ascending : AllPairs (λ s t. s.1 < t.0) sides
  pub members : (s : ℕ × ℕ) → Contains sides s ↔ (IsLone addresses blocks s ⊎ IsWholeRun blocks s)

-- the headers between two sides of addresses
abbrev pub sides_between : ReachPairs → ℕ × ℕ → ℕ × ℕ → Box5
sides_between pairs src dst = record { proto = pairs.proto; src = src; dst = dst; p = pairs.p; q = pairs.q }
