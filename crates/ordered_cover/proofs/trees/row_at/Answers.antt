use Rattle.std.proofs.Common.{rules, sym, ◌∙◌}
use Rattle.std.proofs.lemmas.List.Sorted.{IsPartitionPoint-from_clause}
use Rattle.ordered_cover.proofs.Found.{begins_before, found_below, found_is, parted}
use Rattle.ordered_cover.proofs.trees.row_at.Goals as goal

pub bounds-rows-before : goal.bounds-rows-before
bounds-rows-before g c =
    let rows = c.args.rows.now in
    let low = c.corner-low.result in
    let point = IsPartitionPoint-from_clause (begins_before low) rows _ c.partition_point-before.ensures.partitioned (parted rows low c.requires.ascending) (λ a r q k. search rules) in
    found_below rows low c.partition_point-before.result c.requires.ascending c.partition_point-before.ensures.bound point c.requires.some.row c.requires.some.among
    (c.requires.some.begins ∙ sym c.corner-low.ensures)

pub returns : goal.returns
returns g c =
    let rows = c.args.rows.now in
    let low = c.corner-low.result in
    let point = IsPartitionPoint-from_clause (begins_before low) rows _ c.partition_point-before.ensures.partitioned (parted rows low c.requires.ascending) (λ a r q k. search rules) in
    λ row among begins.
    found_is rows low c.partition_point-before.result c.requires.ascending c.partition_point-before.ensures.bound point row among (begins ∙ sym c.corner-low.ensures)
    c.index-rows-before.result _ c.index-rows-before.is
