use Rattle.std.proofs.Common.{◌≡◌, ◌++◌, map}
use Rattle.std.specs.Vec.Iter.{into_iter_items}
use Rattle.read_filters.specs.Shares.{with_shares}
use Rattle.read_filters.proofs.ruled_groups.with_shares.Given as goal

-- the groups so far and the remaining ones with the shares that are left are the whole
abbrev pub invariant-loop-group : goal.invariant-loop-group
invariant-loop-group l =
    l.all.items ++ with_shares (map (λ s. s.items) (into_iter_items l.left)) (into_iter_items l.group-iterator)
    ≡ with_shares (map (λ s. s.items) l.fn.shares.items) l.fn.groups.items
