use Rattle.std.proofs.Common.{leb, refl, rules}
use Rattle.std.specs.List.Sorted.{IsPartitionedBy}
use Rattle.std.proofs.lemmas.List.Sorted.{IsPartitionPoint-from_clause, IsPartitionedBy-leb}
use Rattle.number_tables.proofs.Between.{any-until}
use Rattle.number_tables.proofs.sets.until.Goals as goal

pub returns : goal.returns
returns c =
    let parted : IsPartitionedBy (λ n. leb n c.args.last) c.args.numbers.now = IsPartitionedBy-leb (λ n. n) c.args.numbers.now c.args.last c.requires in
    any-until c.args.last c.args.numbers.now c.args.numbers.now c.partition_point.result refl c.partition_point.ensures.bound
    (IsPartitionPoint-from_clause (λ n. leb n c.args.last) _ _ c.partition_point.ensures.partitioned parted (λ a r q k. search rules))
