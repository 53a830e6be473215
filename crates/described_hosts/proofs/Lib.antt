pub mod HostLemmas
pub mod Sorting
