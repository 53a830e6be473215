pub mod Pieces
pub mod Agreeing
pub mod Lists
pub mod Order
pub mod Checking
pub mod Decided
