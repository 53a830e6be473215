pub mod Diffs
pub mod Told
pub mod Starts
