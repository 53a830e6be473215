pub mod Boxes
pub mod Cells
pub mod Rest
pub mod Minus
pub mod Laws
pub mod Rows
pub mod Terms
