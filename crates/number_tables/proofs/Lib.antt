pub mod Searching
pub mod Among
pub mod KeyLemmas
pub mod Following
pub mod Between
pub mod Pairs
pub mod Apart
