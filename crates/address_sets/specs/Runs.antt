-- Runs of addresses.
use Rattle.std.specs.Prelude.{◌&&◌, ◌+◌, ◌<◌, ◌≡◌, ◌≤◌, ◌⊎◌, ◌∷◌, [], if◌then◌else◌, All, Bool, List, length, nat_le, nat_lt, not, slice_index_or, true, ℕ}
use Rattle.std.specs.List.{AllByRecursion, list_any}
use Rattle.prefix_text.specs.Block.{Block, last_of}
use Rattle.address_sets.specs.declared.sets.Run.{Run}

-- the run has the address
abbrev pub is_of : ℕ → Run → Bool
is_of a r = nat_le r.first a && nat_le a r.last

-- one of the runs has it
abbrev pub is_in : ℕ → List Run → Bool
is_in a runs = list_any (is_of a) runs

-- the addresses of a block
abbrev pub run_of : Block → Run
run_of b = record { first = b.first; last = last_of b }

-- each run begins where the ones before it ended, or after a gap of at least one address
abbrev pub AreApart : List Run → Type 0
AreApart [] = Unit {0}
AreApart (r ∷ rs) = AllByRecursion (λ s. (r.first ≤ s.first) × (r.last + 1 < s.first)) rs × AreApart rs

-- the run isn't empty
abbrev pub has_some : Run → Bool
has_some r = nat_le r.first r.last

-- each run has an address, and there are gaps between them
pub record AreRuns (runs : List Run) : Type 0 where
  pub apart : AreApart runs
  pub some : All (λ r. has_some r ≡ true) runs

-- the first n runs have begun at the address, and no others
pub record HaveBegun (a : ℕ) (runs : List Run) (n : ℕ) : Type 0 where
  pub count : n ≤ length runs
  pub begun : (k : ℕ) (d : Run) → k < n → (slice_index_or runs k d).first ≤ a
  pub later : (k : ℕ) (d : Run) → n ≤ k → k < length runs → a < (slice_index_or runs k d).first

-- the addresses from a to the last are all in the runs, or none is, and the one past the last is the other way
pub record IsStretch (runs : List Run) (a : ℕ) (x : ℕ × Bool) : Type 0 where
  pub from : a ≤ x.0
  pub alike : (b : ℕ) → a ≤ b → b ≤ x.0 → is_in b runs ≡ x.1
  pub turns : (x.0 ≡ 4294967295) ⊎ (is_in (x.0 + 1) runs ≡ not x.1)

-- ---- runs that are joined

-- the later run begins in the earlier one or right after it
abbrev pub joins : Run → Run → Bool
joins r s = nat_le s.first (r.last + 1)

-- the run, up to the later one of two last addresses
abbrev pub with_last : Run → ℕ → Run
with_last r last = if nat_lt r.last last then record { first = r.first; last = last } else r

-- ascending runs after an open one, with which those are joined that it meets
abbrev pub joined_with : Run → List Run → List Run
joined_with r [] = r ∷ []
joined_with r (s ∷ ss) = if joins r s then joined_with (with_last r s.last) ss else r ∷ joined_with s ss

-- ascending runs, joined where they meet
abbrev pub runs_joined : List Run → List Run
runs_joined [] = []
runs_joined (r ∷ rs) = joined_with r rs
