pub mod Addr
pub mod Block
pub mod Number
pub mod Range
pub mod Terms
