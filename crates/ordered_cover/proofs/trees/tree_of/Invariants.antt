use Rattle.std.proofs.Common.{sum_by}
use Rattle.std.specs.Prelude.{reverse}
use Rattle.header_boxes.specs.Boxes.{volume_of}
use Rattle.ordered_cover.specs.Growing.{IsBegun}
use Rattle.ordered_cover.proofs.trees.tree_of.Given as goal

abbrev pub invariant-told : goal.invariant-told
invariant-told g l = IsBegun l.fn.sides l.rows l.nodes.items (reverse l.boxes.items)

abbrev pub decreases-told : goal.decreases-told
decreases-told g l = sum_by volume_of l.boxes.items
