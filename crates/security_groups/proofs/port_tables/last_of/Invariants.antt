use Rattle.std.proofs.Common.{take}
use Rattle.security_groups.specs.Tables.{EndBy}
use Rattle.security_groups.proofs.port_tables.last_of.Given as goal

abbrev pub invariant-loop-rule : goal.invariant-loop-rule
invariant-loop-rule l = EndBy l.last (take l.rule-index l.rules)
