pub mod Cuts
pub mod Listings
pub mod Printed
pub mod Reading
pub mod ReadsBack
pub mod Terms
