pub mod Told
pub mod Texts
pub mod Walked
pub mod Answered
pub mod Terms
