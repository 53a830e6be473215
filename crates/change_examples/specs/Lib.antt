pub mod Networks
pub mod Changed
