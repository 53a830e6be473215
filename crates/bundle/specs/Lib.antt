pub mod Json
pub mod Instances
pub mod Meaning
pub mod Types
