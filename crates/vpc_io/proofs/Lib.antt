pub mod Added
pub mod Consumed
