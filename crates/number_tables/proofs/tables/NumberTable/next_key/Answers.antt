use Rattle.std.proofs.Common.{arith, nat_lt, rules}
use Rattle.std.specs.List.Sorted.{IsPartitionedBy}
use Rattle.std.proofs.lemmas.List.Sorted.{IsPartitionPoint-from_clause, IsPartitionedBy-ltb}
use Rattle.number_tables.proofs.Following.{next-found, next-none}
use Rattle.number_tables.proofs.tables.NumberTable.next_key.Goals as goal

pub returns-then-next-len : goal.returns-then-next-len
returns-then-next-len g c =
    let parted = IsPartitionedBy-ltb (λ e. e.key) c.self.inside.entries.items c.args.key c.self.invariant in
    let seen : IsPartitionedBy (λ e. nat_lt e.key c.args.key) c.deref.result.now = rw c.deref.ensures.value parted in
    next-found (λ e. e.key) c.args.key c.self.inside.entries.items c.deref.result.now c.args.self.now c.partition_point-next.result c.index.result.now c.deref.ensures.value c.self.view_is c.self.invariant
    (IsPartitionPoint-from_clause (λ e. nat_lt e.key c.args.key) _ _ c.partition_point-next.ensures.partitioned seen (λ a r q k. search rules))
    (omega (arith, c.self.inside.entries.ok.0)) c.index.ensures

pub returns-else-next-len : goal.returns-else-next-len
returns-else-next-len g c =
    let parted = IsPartitionedBy-ltb (λ e. e.key) c.self.inside.entries.items c.args.key c.self.invariant in
    let seen : IsPartitionedBy (λ e. nat_lt e.key c.args.key) c.deref.result.now = rw c.deref.ensures.value parted in
    next-none (λ e. e.key) c.args.key c.self.inside.entries.items c.deref.result.now c.args.self.now c.partition_point-next.result c.deref.ensures.value c.self.view_is
    (IsPartitionPoint-from_clause (λ e. nat_lt e.key c.args.key) _ _ c.partition_point-next.ensures.partitioned seen (λ a r q k. search rules))
    (omega (arith, c.self.inside.entries.ok.0))
