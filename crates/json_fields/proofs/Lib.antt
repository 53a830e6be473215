pub mod Elements
pub mod KeptLemmas
