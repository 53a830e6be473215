use Rattle.std.proofs.Common.{arith, nat_lt, rules}
use Rattle.std.specs.List.Sorted.{IsPartitionedBy}
use Rattle.std.proofs.lemmas.List.Sorted.{IsPartitionPoint-from_clause, IsPartitionedBy-ltb}
use Rattle.number_tables.proofs.Apart.{stretch-before, stretch-in, stretch-rest}
use Rattle.number_tables.proofs.runs.RunTable.stretch.Goals as goal

pub returns-then-run-key : goal.returns-then-run-key
returns-then-run-key g c =
    let parted = IsPartitionedBy-ltb (λ r. r.last) c.self.inside.runs.items c.args.key c.self.invariant.ascend in
    let seen : IsPartitionedBy (λ r. nat_lt r.last c.args.key) c.deref.result.now = rw c.deref.ensures.value parted in
    stretch-in c.args.key c.self.inside.runs.items c.deref.result.now c.args.self.now c.partition_point-below.result c.index-run.result.now c.deref.ensures.value c.self.view_is c.self.invariant
    (omega (arith, c.self.inside.runs.ok.0))
    (IsPartitionPoint-from_clause (λ r. nat_lt r.last c.args.key) _ _ c.partition_point-below.ensures.partitioned seen (λ a r q k. search rules)) c.index-run.ensures c.if-run-key.true

pub returns-then-below-len : goal.returns-then-below-len
returns-then-below-len g c =
    let parted = IsPartitionedBy-ltb (λ r. r.last) c.self.inside.runs.items c.args.key c.self.invariant.ascend in
    let seen : IsPartitionedBy (λ r. nat_lt r.last c.args.key) c.deref.result.now = rw c.deref.ensures.value parted in
    stretch-before c.args.key c.self.inside.runs.items c.deref.result.now c.args.self.now c.partition_point-below.result c.index-run.result.now c.deref.ensures.value c.self.view_is c.self.invariant
    (omega (arith, c.self.inside.runs.ok.0))
    (IsPartitionPoint-from_clause (λ r. nat_lt r.last c.args.key) _ _ c.partition_point-below.ensures.partitioned seen (λ a r q k. search rules)) c.index-run.ensures c.if-run-key.false

pub returns : goal.returns
returns g c =
    let parted = IsPartitionedBy-ltb (λ r. r.last) c.self.inside.runs.items c.args.key c.self.invariant.ascend in
    let seen : IsPartitionedBy (λ r. nat_lt r.last c.args.key) c.deref.result.now = rw c.deref.ensures.value parted in
    stretch-rest c.args.key c.self.inside.runs.items c.deref.result.now c.args.self.now c.partition_point-below.result c.deref.ensures.value c.self.view_is c.self.invariant
    (omega (arith, c.self.inside.runs.ok.0, c.if-below-len.false))
    (IsPartitionPoint-from_clause (λ r. nat_lt r.last c.args.key) _ _ c.partition_point-below.ensures.partitioned seen (λ a r q k. search rules)) (omega (arith, c.ranges.key.fits))
