pub mod Over
pub mod Pile
