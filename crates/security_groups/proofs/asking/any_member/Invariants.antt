use Rattle.std.proofs.Common.{◌≡◌, drop}
use Rattle.std.specs.List.{list_any}
use Rattle.security_groups.specs.Rules.{has_member}
use Rattle.security_groups.proofs.asking.any_member.Given as goal

abbrev pub invariant-loop-group : goal.invariant-loop-group
invariant-loop-group l = list_any (has_member l.members l.a) (drop l.group-index l.named) ≡ list_any (has_member l.members l.a) l.named
