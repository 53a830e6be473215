pub mod Words
pub mod Files
pub mod Due
pub mod Complete
pub mod Terms
