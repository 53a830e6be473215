pub mod Apart
pub mod Replays
pub mod ReplayLemmas
pub mod Decided
