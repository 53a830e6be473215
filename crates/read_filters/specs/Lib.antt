pub mod Ranges
pub mod Protocols
pub mod Acls
pub mod Permissions
pub mod Groups
pub mod Filters
pub mod GroupRules
pub mod Shares
