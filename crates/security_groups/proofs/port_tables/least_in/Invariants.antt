use Rattle.std.proofs.Common.{◌≡◌, take}
use Rattle.security_groups.specs.Asking.{least}
use Rattle.security_groups.specs.Rules.{allows}
use Rattle.security_groups.proofs.port_tables.least_in.Given as goal

abbrev pub invariant-loop-rule : goal.invariant-loop-rule
invariant-loop-rule l = l.least ≡ least (allows l.lists l.members l.dir l.h) (take l.rule-index l.rules)
