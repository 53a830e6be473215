-- Bytes that a device tells, or doesn't.
use Rattle.std.specs.Prelude.{ℕ, List, Option, Some, None}

-- nothing is told
abbrev pub nothing_told : Option (List ℕ)
nothing_told = None

-- where bytes are told, this holds of them
abbrev pub IfTold : Option (List ℕ) → (List ℕ → Type 0) → Type 0
IfTold None fact = Unit {0}
IfTold (Some bytes) fact = fact bytes
