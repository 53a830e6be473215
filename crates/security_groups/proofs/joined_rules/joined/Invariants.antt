use Rattle.security_groups.proofs.Joining.{IsJoining}
use Rattle.security_groups.proofs.joined_rules.joined.Given as goal

abbrev pub invariant-loop-k : goal.invariant-loop-k
invariant-loop-k l = IsJoining l.rules l.k l.end l.joined.items
