-- The definitions that longer pages take, from one place.
pub use Rattle.header_boxes.specs.Boxes.{AreDisjoint, IsRangeWithin, IsValid, IsWithin, holds, in_range, low_of, volume_of}
pub use Rattle.header_boxes.specs.Cells.{IsAligned, cells_of}
pub use Rattle.header_boxes.specs.Rows.{AreTrueRows, HasWord, IsFirst, IsFirstThrough, NoneThrough, is_covered}
