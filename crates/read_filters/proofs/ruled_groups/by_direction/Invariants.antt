use Rattle.std.proofs.Common.{◌≡◌, ◌++◌, not}
use Rattle.std.specs.Vec.Iter.{into_iter_items}
use Rattle.read_filters.specs.GroupRules.{permissions_of}
use Rattle.read_filters.proofs.ruled_groups.by_direction.Given as goal

abbrev pub invariant-loop-rule : goal.invariant-loop-rule
invariant-loop-rule l = record {
  inward : l.all.inward.items ++ permissions_of (λ r. not r.outward) (into_iter_items l.rule-iterator) ≡ permissions_of (λ r. not r.outward) l.fn.rules.items;
  outward : l.all.outward.items ++ permissions_of (λ r. r.outward) (into_iter_items l.rule-iterator) ≡ permissions_of (λ r. r.outward) l.fn.rules.items;
}
