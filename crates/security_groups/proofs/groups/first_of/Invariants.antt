use Rattle.std.proofs.Common.{◌≡◌, drop}
use Rattle.security_groups.specs.Asking.{first_of}
use Rattle.security_groups.proofs.groups.first_of.Given as goal

abbrev pub invariant-loop-group : goal.invariant-loop-group
invariant-loop-group l = first_of l.lists l.members l.groups l.dir l.h (drop l.group-index l.named) ≡ first_of l.lists l.members l.groups l.dir l.h l.named
