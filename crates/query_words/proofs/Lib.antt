pub mod WordLemmas
pub mod EventLemmas
pub mod UnboundedLemmas
