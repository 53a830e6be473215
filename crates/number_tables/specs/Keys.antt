-- Two numbers of 32 bits as one.
use Rattle.std.specs.Prelude.{◌*◌, ◌+◌, ℕ}

-- the first is in the high half
abbrev pub key_of : ℕ → ℕ → ℕ
key_of high low = high * 4294967296 + low
