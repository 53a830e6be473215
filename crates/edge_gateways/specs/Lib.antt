pub mod Pairs
pub mod Sides
pub mod FarBlocks
pub mod Carry
pub mod Edges
pub mod OnImages
pub mod Laws
pub mod Terms
