pub mod Header
pub mod Dir
pub mod Cuts
pub mod Terms
