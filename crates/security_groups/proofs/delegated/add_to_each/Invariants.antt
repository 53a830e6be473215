use Rattle.std.proofs.Common.{map, take}
use Rattle.security_groups.specs.Members.{AreMore}
use Rattle.security_groups.proofs.delegated.add_to_each.Given as goal

abbrev pub invariant-loop-group : goal.invariant-loop-group
invariant-loop-group l = AreMore (map (λ b. b.items) l.initial.blocks.items) (map (λ b. b.items) l.blocks.items) (take l.group-index l.groups) l.more
