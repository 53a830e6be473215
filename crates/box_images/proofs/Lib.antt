pub mod SideLemmas
pub mod BodyLemmas
pub mod LawLemmas
pub mod Reducing
pub mod NarrowLemmas
pub mod ImageLemmas
pub mod TranslateLemmas
pub mod Lemmas
