pub mod Comes
pub mod Memory
pub mod Moments
pub mod Session
