pub mod Answered
pub mod Asked
pub mod Laws
pub mod Matrix
pub mod Naming
pub mod Pairs
pub mod Ranges
pub mod Words
