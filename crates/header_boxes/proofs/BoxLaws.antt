-- The laws of boxes.
use Rattle.std.proofs.Common.{ℕ, ◌≤◌, arith}
use Rattle.std.proofs.Math.Nat.{mul-le-mul}
use Rattle.header_boxes.specs.Boxes.{low_of, width}
use Rattle.header_boxes.specs.Laws.{LowIsLeast, HoldsLow, VolumeIsPositive, WithinHolds, MinusLowAfter, MinusAligned, AlignedIsTransitive, AlignedByEnds, AlignedGrows, AlignedHoldsCells, CellsAreNumbered}
use Rattle.header_boxes.proofs.CellNumbers.{aligned_through, aligned_by_low, aligned_to_more, whole_cell, cell_of-lt-cells_of}
use Rattle.header_boxes.proofs.Held.{holds_low, holds_whole, low_under}
use Rattle.header_boxes.proofs.Left.{low_after, aligned_left}
use Rattle.header_boxes.proofs.Order.{not_before_if_under}

pub low_is_least : LowIsLeast
low_is_least b h t = not_before_if_under (low_of b) h (low_under h b t)

pub box_holds_low : HoldsLow
box_holds_low = holds_low

pub volume_is_positive : VolumeIsPositive
volume_is_positive b v =
    mul-le-mul (some b.proto v.proto) (mul-le-mul (some b.src v.src) (mul-le-mul (some b.dst v.dst) (mul-le-mul (some b.p v.p) (some b.q v.q))))
  where
    some : (r : ℕ × ℕ) → r.0 ≤ r.1 → 1 ≤ width r
    some r h = omega arith

pub within_holds : WithinHolds
within_holds part whole h k t = holds_whole h part whole k t

pub minus_low_after : MinusLowAfter
minus_low_after = low_after

pub minus_aligned : MinusAligned
minus_aligned = aligned_left

pub aligned_transitive : AlignedIsTransitive
aligned_transitive = aligned_through

pub aligned_by_ends : AlignedByEnds
aligned_by_ends = aligned_by_low

pub aligned_grows : AlignedGrows
aligned_grows = aligned_to_more

pub aligned_cell : AlignedHoldsCells
aligned_cell = whole_cell

pub cell_number : CellsAreNumbered
cell_number = cell_of-lt-cells_of
