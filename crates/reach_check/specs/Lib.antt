pub mod Reaches
pub mod Texts
pub mod Questions
