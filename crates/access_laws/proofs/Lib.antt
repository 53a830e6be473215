pub mod Owning
pub mod Shutting
