pub mod Decided
pub mod TraceLemmas
