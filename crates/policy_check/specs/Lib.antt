pub mod Judged
pub mod Policy
pub mod Rules
pub mod Stopped
