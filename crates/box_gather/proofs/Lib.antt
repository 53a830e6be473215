pub mod Counting
pub mod Order
pub mod Parted
pub mod Piles
pub mod Trims
