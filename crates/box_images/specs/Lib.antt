pub mod Fields
pub mod Images
pub mod Bodies
pub mod Answers
pub mod Parts
pub mod Laws
pub mod Terms
