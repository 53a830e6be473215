use Rattle.std.proofs.Common.{leb, rules}
use Rattle.std.specs.List.Sorted.{IsPartitionedBy}
use Rattle.std.proofs.lemmas.List.Sorted.{IsPartitionPoint-from_clause, IsPartitionedBy-leb}
use Rattle.address_sets.proofs.Searching.{firsts-ascend, have_begun}
use Rattle.address_sets.proofs.sets.AddressSet.begun.Goals as goal

pub returns : goal.returns
returns c =
    let parted = IsPartitionedBy-leb (λ r. r.first) c.self.inside.runs.items c.args.address (firsts-ascend c.self.inside.runs.items c.self.invariant.apart) in
    let seen : IsPartitionedBy (λ r. leb r.first c.args.address) c.deref.result.now = rw c.deref.ensures.value parted in
    have_begun c.args.address c.self.inside.runs.items c.deref.result.now c.args.self.now c.partition_point.result c.deref.ensures.value c.self.view_is
    c.partition_point.ensures.bound (IsPartitionPoint-from_clause (λ r. leb r.first c.args.address) _ _ c.partition_point.ensures.partitioned seen (λ a r q k. search rules))
