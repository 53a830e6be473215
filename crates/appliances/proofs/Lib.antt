pub mod Kept
pub mod Numbers
pub mod Rows
pub mod Standing
pub mod OnImages
pub mod Forwarding
