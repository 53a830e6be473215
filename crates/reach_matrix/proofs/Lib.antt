pub mod PairRanges
pub mod AnswerLemmas
pub mod LineLemmas
pub mod NamingLemmas
pub mod PortLemmas
pub mod AskedLemmas
