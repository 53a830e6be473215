pub mod Ascending
pub mod PieceLemmas
pub mod Growth
pub mod Halves
