pub mod Decided
pub mod MadeLemmas
