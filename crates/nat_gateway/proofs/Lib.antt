pub mod Additions
pub mod Lists
pub mod Runs
pub mod SentLemmas
pub mod Values
