pub mod Book
pub mod OnImages
pub mod Parts
pub mod Sent
pub mod Tables
pub mod Terms
