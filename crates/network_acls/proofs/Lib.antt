pub mod Directions
pub mod Matching
pub mod Standing
