-- Files of commands.
use Rattle.std.specs.Prelude.{ℕ}

-- the most bytes of one file
abbrev pub file_limit : ℕ
file_limit = 67108864
