pub mod GatherLemmas
pub mod JoinedLemmas
pub mod RowLemmas
pub mod BodyLemmas
pub mod AnswerLemmas
pub mod Decided
