pub mod Typed
pub mod Networks
pub mod ReachTexts
pub mod DiffTexts
pub mod Terms
