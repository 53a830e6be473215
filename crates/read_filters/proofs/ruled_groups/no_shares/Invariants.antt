use Rattle.std.proofs.Common.{◌≡◌, [], map, take}
use Rattle.read_filters.proofs.ruled_groups.no_shares.Given as goal

abbrev pub invariant-loop-group : goal.invariant-loop-group
invariant-loop-group l = map (λ s. s.items) l.shares.items ≡ map (λ g. []) (take l._group-index l.groups)
