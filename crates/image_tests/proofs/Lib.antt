pub mod Fields
pub mod Answering
pub mod EdgeCuts
pub mod Trying
pub mod KeyStretches
pub mod Stretches
pub mod PieceLemmas
pub mod Lemmas
