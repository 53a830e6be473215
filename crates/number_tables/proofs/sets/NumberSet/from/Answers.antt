use Rattle.std.proofs.Common.{◌==◌, ◌∙◌, ap, arith, length, nat_lt, rules, subst, sym}
use Rattle.std.specs.List.{list_any}
use Rattle.std.specs.List.Sorted.{IsNonDecreasing, IsPartitionedBy}
use Rattle.std.proofs.lemmas.List.Sorted.{IsNonDecreasingBy-drop, IsPartitionPoint-from_clause, IsPartitionedBy-ltb}
use Rattle.number_tables.proofs.Between.{any-from, rest-is}
use Rattle.number_tables.proofs.sets.NumberSet.from.Goals as goal

pub returns-clause-same : goal.returns-clause-same
returns-clause-same c k least =
    let xs = c.self.inside.numbers.items in
    let below = c.partition_point-below.result in
    let parted = IsPartitionedBy-ltb (λ n. n) xs c.args.first c.self.invariant in
    let seen : IsPartitionedBy (λ n. nat_lt n c.args.first) c.deref.result.now = rw c.deref.ensures.value parted in
    let long = ap length c.deref.ensures.value in
    let bound = c.partition_point-below.ensures.bound in
    ap (list_any (λ n. n == k)) (rest-is below xs c.deref-2.result.now c.deref-2.ensures.value)
    ∙ (any-from c.args.first xs c.deref.result.now below c.deref.ensures.value (omega arith)
    (IsPartitionPoint-from_clause (λ n. nat_lt n c.args.first) _ _ c.partition_point-below.ensures.partitioned seen (λ a r q m. search rules)) k least
    ∙ ap (list_any (λ n. n == k)) c.self.view_is)

pub returns-clause-ascend : goal.returns-clause-ascend
returns-clause-ascend c =
    let xs = c.self.inside.numbers.items in
    let below = c.partition_point-below.result in
    subst IsNonDecreasing (sym (rest-is below xs c.deref-2.result.now c.deref-2.ensures.value)) (IsNonDecreasingBy-drop (λ n. n) below xs c.self.invariant)
