-- The definitions that longer pages take, from one place.
pub use Rattle.edge_gateways.specs.Carry.{carry_if}
pub use Rattle.edge_gateways.specs.Edges.{AreEdgesOf, CanCarry, EdgeLists, carry, owner_in}
pub use Rattle.edge_gateways.specs.Laws.{OwnersAreCutOut, PublicsAreCutOut, SidesAreDivided}
pub use Rattle.edge_gateways.specs.OnImages.{DivideSides}
pub use Rattle.edge_gateways.specs.Pairs.{HasPairsOf, all_pairs, in_vpc, owner_at, owner_entry, pairs_with, public_entry}
pub use Rattle.edge_gateways.specs.Sides.{HasBlocksOf, HasPeeringsOf, has_address, is_one_of, other_of, sides_if, sides_of}
pub use Rattle.edge_gateways.specs.declared.pairs.Owner.{Owner}
pub use Rattle.edge_gateways.specs.declared.pairs.Pair.{Pair}
pub use Rattle.edge_gateways.specs.declared.sides.Sides.{Sides}
