-- The definitions that longer pages take, from one place.
pub use Rattle.prefix_text.specs.Addr.{addr_text}
pub use Rattle.prefix_text.specs.Block.{Block, block_text, cidr_text, prefix_of}
pub use Rattle.prefix_text.specs.Number.{number_of}
pub use Rattle.prefix_text.specs.Range.{range_of, range_text}
