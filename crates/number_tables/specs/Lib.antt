pub mod Entries
pub mod Keys
pub mod Next
pub mod Runs
pub mod Above
