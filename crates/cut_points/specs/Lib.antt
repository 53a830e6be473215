pub mod Types
pub mod Gathered
pub mod Cuts
pub mod Dividing
