pub mod Made
pub mod Types
