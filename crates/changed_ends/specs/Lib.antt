pub mod Asked
pub mod Links
