use Rattle.std.proofs.Common.{◌≡◌, [], map, take}
use Rattle.security_groups.proofs.delegated.no_blocks.Given as goal

abbrev pub invariant-loop-group : goal.invariant-loop-group
invariant-loop-group l = map (λ b. b.items) l.blocks.items ≡ map (λ g. []) (take l._group-index l.groups)
