-- The lemmas that longer pages take, from one place.
pub use Rattle.header_boxes.proofs.BoxLaws.{aligned_grows, low_is_least, volume_is_positive, within_holds}
pub use Rattle.header_boxes.proofs.CellNumbers.{aligned_by_low, aligned_through, aligned_to_itself, aligned_to_more}
pub use Rattle.header_boxes.proofs.Held.{holds_low, holds_whole, valid_if_within, within_itself, within_trans}
pub use Rattle.header_boxes.proofs.Order.{order_of_total}
