pub mod Ranges
pub mod Numbers
pub mod Described
pub mod Accepting
