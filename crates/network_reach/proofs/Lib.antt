pub mod Told
pub mod ToldTrees
pub mod Reports
pub mod ReachableLemmas
pub mod Decided
