-- The next of some numbers.
use Rattle.std.specs.Prelude.{◌<◌, ◌≤◌, ◌⊎◌, Contains, List, None, Option, Some, ℕ}

-- the least of the numbers that is at least n; there is none where all are below n
abbrev pub IsNext : List ℕ → ℕ → Option ℕ → Type 0
IsNext numbers n None = (m : ℕ) → Contains numbers m → m < n
IsNext numbers n (Some k) = (n ≤ k) × Contains numbers k × ((m : ℕ) → Contains numbers m → (m < n) ⊎ (k ≤ m))
