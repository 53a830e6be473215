use Rattle.std.proofs.Common.{◌≡◌, ◌*◌, take}
use Rattle.security_groups.specs.Asking.{least}
use Rattle.security_groups.specs.Rules.{allows}
use Rattle.security_groups.proofs.port_tables.least_in_runs.Given as goal

abbrev pub invariant-loop-k : goal.invariant-loop-k
invariant-loop-k l = l.least ≡ least (allows l.lists l.members l.dir l.h) (take (16 * l.k) l.begun.rules.now)
