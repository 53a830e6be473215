pub mod Untold
pub mod RuleLemmas
pub mod ShareLemmas
