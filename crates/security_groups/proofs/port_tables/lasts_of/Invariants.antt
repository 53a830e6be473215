use Rattle.std.proofs.Common.{◌≡◌, ◌<◌, ℕ, get_or, length}
use Rattle.security_groups.specs.Tables.{EndBy, run_of}
use Rattle.security_groups.proofs.port_tables.lasts_of.Given as goal

abbrev pub invariant-loop-k : goal.invariant-loop-k
invariant-loop-k l = (length l.lasts.items ≡ l.k) × ((j : ℕ) → j < l.k → EndBy (get_or l.lasts.items j 0) (run_of j l.rules))
