use Rattle.std.proofs.Common.{◌≡◌, map}
use Rattle.std.specs.Vec.Iter.{into_iter_items}
use Rattle.read_filters.specs.Shares.{shares_from}
use Rattle.read_filters.proofs.ShareLemmas.{handed_all}
use Rattle.read_filters.proofs.ruled_groups.shares_of.Given as goal

-- the shares so far, after the remaining rules are handed out, are the whole
abbrev pub invariant-loop-rule : goal.invariant-loop-rule
invariant-loop-rule l = handed_all (into_iter_items l.rule-iterator) (map (λ s. s.items) l.shares.items) ≡ shares_from 0 l.fn.rules.items l.groups
