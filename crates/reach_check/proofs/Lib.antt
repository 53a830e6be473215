pub mod FirstLines
pub mod Agreeing
pub mod Starts
pub mod Fates
pub mod Checked
pub mod Decided
