pub mod Tests
pub mod Keys
pub mod Types
