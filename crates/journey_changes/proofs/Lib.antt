pub mod Asked
pub mod Joining
pub mod LawLemmas
pub mod Telling
pub mod LetInAlike
pub mod AlikeLemmas
