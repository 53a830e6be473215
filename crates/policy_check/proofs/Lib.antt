pub mod Decided
pub mod Found
pub mod RuleLemmas
pub mod Rulings
pub mod Tallies
