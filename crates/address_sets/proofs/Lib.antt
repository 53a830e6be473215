pub mod Joining
pub mod Searching
pub mod Blocks
pub mod Stretches
