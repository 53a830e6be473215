pub mod Lookups
pub mod ReplyCuts
pub mod ReplyLemmas
pub mod TrackedLemmas
