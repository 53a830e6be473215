pub mod Among
pub mod Additions
pub mod Increasing
pub mod Dividing
