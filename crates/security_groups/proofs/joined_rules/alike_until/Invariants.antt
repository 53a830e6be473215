use Rattle.std.specs.List.{AllWithin}
use Rattle.security_groups.specs.Dividing.{rule_at}
use Rattle.security_groups.specs.Joined.{AreAlike}
use Rattle.security_groups.proofs.joined_rules.alike_until.Given as goal

abbrev pub invariant-loop-k : goal.invariant-loop-k
invariant-loop-k l = AllWithin (AreAlike (rule_at l.rules l.from)) l.rules l.from l.k
