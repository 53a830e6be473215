-- The definitions that longer pages take, from one place.
pub use Rattle.unused_rules.specs.Chunks.{ChunkDecidesNothing, without_chunk}
pub use Rattle.unused_rules.specs.Needed.{IsNeed, StaysTheSame}
pub use Rattle.unused_rules.specs.Probe.{agreement_of}
pub use Rattle.unused_rules.specs.Same.{same_told, unless_apart}
pub use Rattle.unused_rules.specs.Without.{without}
pub use Rattle.unused_rules.specs.declared.chunks.Chunk.{Chunk}
pub use Rattle.unused_rules.specs.declared.rules.RuleName.{RuleName}
