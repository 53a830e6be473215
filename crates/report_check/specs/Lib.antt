pub mod Checked
pub mod Agreement
pub mod Rows
pub mod Texts
pub mod Certified
