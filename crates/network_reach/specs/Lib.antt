pub mod Reached
pub mod Reachable
pub mod Asked
