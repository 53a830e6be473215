-- Counts of calls and of faults.
use Rattle.std.specs.Prelude.{ℕ, ◌≡◌, ◌<◌, ◌+◌, ◌⊎◌, min}

-- the last value of a count, that of a `u64`
abbrev pub last_count : ℕ
last_count = 18446744073709551615

-- the count after one more, which stands still at its last value
abbrev pub next_count : ℕ → ℕ
next_count n = min (n + 1) last_count

-- a count is greater than it was before, or stands at its last value
abbrev pub Rose : ℕ → ℕ → Type 0
Rose before now = (before < now) ⊎ (now ≡ last_count)
