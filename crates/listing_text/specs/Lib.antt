pub mod Outside
pub mod Sides
pub mod Told
pub mod Texts
pub mod Bodies
pub mod Answered
pub mod Terms
