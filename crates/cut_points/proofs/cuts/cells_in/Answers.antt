-- The cuts that divide a side tell the cells.
use Rattle.cut_points.proofs.Dividing.{is_cell_count}
use Rattle.cut_points.proofs.cuts.cells_in.Goals as goal

pub returns : goal.returns
returns c = is_cell_count c.args.d.now _ _ _ c.args.sides.now _ c.in_ok-gathered.ensures c.keep_dividing_sides.ensures c.sorted-cuts.ensures.ascending c.sorted-cuts.ensures.members c.cells.ensures.value
