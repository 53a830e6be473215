pub mod Nested
pub mod ToldLemmas
pub mod Walking
pub mod Borders
