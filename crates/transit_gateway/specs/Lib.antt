pub mod Rows
pub mod Tables
pub mod Sites
pub mod Gateways
pub mod Zones
pub mod Lists
pub mod Index
pub mod Terms
