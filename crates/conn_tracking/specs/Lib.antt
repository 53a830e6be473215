pub mod OnImages
pub mod Order
pub mod Tracked
