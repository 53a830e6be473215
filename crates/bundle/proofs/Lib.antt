pub mod Listed
pub mod MeaningLemmas
