pub mod Ports
pub mod Replayed
