use Rattle.std.proofs.Common.{None, Some, arith, nat_lt, rules, subst}
use Rattle.std.specs.List.Sorted.{IsPartitionedBy}
use Rattle.std.proofs.lemmas.List.{map-id}
use Rattle.std.proofs.lemmas.List.Sorted.{IsPartitionPoint-from_clause, IsPartitionedBy-ltb}
use Rattle.number_tables.specs.Next.{IsNext}
use Rattle.number_tables.proofs.Following.{next-found, next-none}
use Rattle.number_tables.proofs.sets.NumberSet.next.Goals as goal

pub returns-then-next-len : goal.returns-then-next-len
returns-then-next-len c =
    let parted = IsPartitionedBy-ltb (λ n. n) c.self.inside.numbers.items c.args.number c.self.invariant in
    let seen : IsPartitionedBy (λ n. nat_lt n c.args.number) c.deref.result.now = rw c.deref.ensures.value parted in
    subst (λ ns. IsNext ns c.args.number (Some c.index.result.now)) (map-id c.args.self.now)
    (next-found (λ n. n) c.args.number c.self.inside.numbers.items c.deref.result.now c.args.self.now c.partition_point-next.result c.index.result.now c.deref.ensures.value c.self.view_is c.self.invariant
    (IsPartitionPoint-from_clause (λ n. nat_lt n c.args.number) _ _ c.partition_point-next.ensures.partitioned seen (λ a r q k. search rules))
    (omega (arith, c.self.inside.numbers.ok.0)) c.index.ensures)

pub returns-else-next-len : goal.returns-else-next-len
returns-else-next-len c =
    let parted = IsPartitionedBy-ltb (λ n. n) c.self.inside.numbers.items c.args.number c.self.invariant in
    let seen : IsPartitionedBy (λ n. nat_lt n c.args.number) c.deref.result.now = rw c.deref.ensures.value parted in
    subst (λ ns. IsNext ns c.args.number None) (map-id c.args.self.now)
    (next-none (λ n. n) c.args.number c.self.inside.numbers.items c.deref.result.now c.args.self.now c.partition_point-next.result c.deref.ensures.value c.self.view_is
    (IsPartitionPoint-from_clause (λ n. nat_lt n c.args.number) _ _ c.partition_point-next.ensures.partitioned seen (λ a r q k. search rules))
    (omega (arith, c.self.inside.numbers.ok.0)))
