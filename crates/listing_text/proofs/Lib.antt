pub mod WordLemmas
pub mod Same
pub mod Runs
pub mod SideLemmas
pub mod BodyLemmas
pub mod Orders
pub mod Decided
pub mod OutsideLemmas
