pub mod Told
pub mod TrueRows
pub mod Boxes
pub mod Truth
pub mod Shapes
pub mod Walked
pub mod Faults
pub mod Decided
