pub mod Told
pub mod Sweep
pub mod Laws
pub mod Terms
