pub mod BoxLemmas
pub mod StartLemmas
