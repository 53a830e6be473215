pub mod Borders
pub mod Decisions
pub mod Reasons
pub mod Parts
pub mod Explained
pub mod Laws
