-- The definitions that longer pages take, from one place.
pub use Rattle.block_pieces.specs.Laws.{IsAsGood, IsToldBest}
pub use Rattle.block_pieces.specs.Sweep.{IsBest, better_of, inner_borders, tells, within_line}
pub use Rattle.block_pieces.specs.Told.{borders_of, told_by}
pub use Rattle.block_pieces.specs.declared.rows.BlockRow.{BlockRow}
