use Rattle.std.proofs.Common.{ap, arith, leb, length, ltb, rules, take}
use Rattle.std.specs.List.Sorted.{IsPartitionedBy}
use Rattle.std.proofs.lemmas.Grind.{div_ceil_times}
use Rattle.std.proofs.lemmas.List.Sorted.{IsNonDecreasingBy-take, IsPartitionPoint-from_clause, IsPartitionedBy-leb, IsPartitionedBy-ltb}
use Rattle.security_groups.proofs.Runs.{are-begun, ended-begun, lasts-begun}
use Rattle.security_groups.proofs.port_tables.PortTable.begun.Goals as goal

pub returns-clause-rules : goal.returns-clause-rules
returns-clause-rules c =
    let q = c.args.q in
    let rows = c.self.inside.rules.items in
    let begun = c.partition_point-begun.result in
    let parted = IsPartitionedBy-leb (λ r. r.q_from) rows q c.self.invariant.ascend in
    let seen : IsPartitionedBy (λ r. leb r.q_from q) c.deref.result.now = rw c.deref.ensures.value parted in
    let point = IsPartitionPoint-from_clause (λ r. leb r.q_from q) _ _ c.partition_point-begun.ensures.partitioned seen (λ a r s k. search rules) in
    are-begun c.args.self.now rows c.deref.result.now c.deref-3.result.now q begun c.deref.ensures.value c.deref-3.ensures.value c.self.view_is c.partition_point-begun.ensures.bound point

pub returns-clause-lasts : goal.returns-clause-lasts
returns-clause-lasts c =
    let begun = c.partition_point-begun.result in
    let times = div_ceil_times begun 16 (omega arith) in
    let long = ap length c.deref.ensures.value in
    let bound = c.partition_point-begun.ensures.bound in
    lasts-begun c.self.inside.rules.items c.deref-3.result.now c.self.inside.lasts.items c.deref-4.result.now begun c.div_ceil-runs.result c.deref-3.ensures.value c.deref-4.ensures.value c.self.invariant.lasts (omega arith) (omega arith)
    (omega arith)

pub returns-clause-ended : goal.returns-clause-ended
returns-clause-ended c =
    let q = c.args.q in
    let tops = c.self.inside.tops.items in
    let lasts = c.self.inside.lasts.items in
    let runs = c.div_ceil-runs.result in
    let times = div_ceil_times c.partition_point-begun.result 16 (omega arith) in
    let bound = c.partition_point-begun.ensures.bound in
    let long = ap length c.deref.ensures.value in
    let cover = c.self.invariant.lasts.cover in
    let parted = IsPartitionedBy-ltb (λ t. t) (take runs tops) q (IsNonDecreasingBy-take (λ t. t) runs tops c.self.invariant.tops.ascend) in
    let seen : IsPartitionedBy (λ t. ltb t q) (take runs c.deref-2.result.now) = rw c.deref-2.ensures.value parted in
    let point = IsPartitionPoint-from_clause (λ t. ltb t q) _ _ c.partition_point-ended.ensures.partitioned seen (λ a r s k. search rules) in
    ended-begun lasts tops (take runs c.deref-2.result.now) (take runs c.deref-4.result.now) runs q c.partition_point-ended.result c.self.invariant.tops
    (ap (take runs) c.deref-2.ensures.value) (ap (take runs) c.deref-4.ensures.value) (omega arith) c.partition_point-ended.ensures.bound point
