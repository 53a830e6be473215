-- Boxes ordered by their low corners.
use Rattle.std.specs.Ordering.{on, flip_args}
use Rattle.std.specs.Cmp.{IsTotalOrder}
use Rattle.std.proofs.lemmas.Cmp.{on_total, back_total}
use Rattle.std.specs.declared.cmp.Ordering.{Ordering}
use Rattle.vpc_base.specs.Header.{order_of}
use Rattle.header_boxes.specs.Boxes.{low_of}
use Rattle.header_boxes.proofs.Order.{order_of_total}
use Rattle.ordered_cover.specs.declared.corner.ByCorner.{ByCorner}

-- a box is the greater, the earlier its low corner comes
abbrev pub later_first : ByCorner → ByCorner → Ordering
later_first = flip_args (on (λ (b : ByCorner). low_of b.part) order_of)

-- it is total
pub later_first_total : IsTotalOrder later_first
later_first_total = back_total (on_total (λ (b : ByCorner). low_of b.part) order_of_total)
