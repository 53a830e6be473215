pub mod Paths
pub mod PathParts
pub mod FieldFault
pub mod Fields
pub mod Bundle
pub mod Kept
