use Rattle.std.proofs.Common.{◌≡◌, ◌*◌, drop}
use Rattle.std.specs.List.{list_any}
use Rattle.security_groups.specs.Rules.{allows}
use Rattle.security_groups.proofs.runs_on.allowing_in_runs.Given as goal

abbrev pub invariant-loop-k : goal.invariant-loop-k
invariant-loop-k l = list_any (allows l.lists l.members l.dir l.h) (drop (16 * l.k) l.begun.rules.now) ≡ list_any (allows l.lists l.members l.dir l.h) l.begun.rules.now
