pub mod Indexes
pub mod Hosts
pub mod Nats
pub mod Sites
pub mod Targets
pub mod Named
pub mod Outside
