pub mod Types
pub mod Dividing
pub mod Laws
