use Rattle.std.proofs.Common.{◌+◌}
use Rattle.std.specs.List.{AllWithin}
use Rattle.security_groups.proofs.runs_on.before_next.Given as goal
use Rattle.security_groups.specs.Dividing.{AllowsNone}

abbrev pub invariant-loop-rule : goal.invariant-loop-rule
invariant-loop-rule l = AllWithin (AllowsNone l.lists l.members l.dir l.i) l.rules l.begun (l.begun + l.rule-index)
