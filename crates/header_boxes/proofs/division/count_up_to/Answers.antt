use Rattle.std.proofs.Common.{rules, of_calls, ℕ, nat_le, sym}
use Rattle.std.proofs.lemmas.Fn.{always_returns_same}
use Rattle.std.proofs.lemmas.List.Sorted.{IsPartitionedBy-leb}
use Rattle.header_boxes.proofs.Pieces.{non_decreasing, count_from_point}
use Rattle.header_boxes.proofs.division.count_up_to.Goals as goal

pub returns : goal.returns
returns c =
    let cuts = c.args.cuts.now in
    let at_most = λ (y : ℕ). nat_le y c.args.x in
    let point = c.partition_point.ensures.partitioned at_most (always_returns_same _ _ _ (λ a r f k. search (rules, of_calls))) (IsPartitionedBy-leb (λ y. y) cuts c.args.x (non_decreasing cuts c.requires)) in
    sym (count_from_point at_most cuts c.partition_point.result c.partition_point.ensures.bound point)
