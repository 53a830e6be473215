pub mod Hosts
pub mod Outside
