pub mod Edges
pub mod Entering
pub mod Steps
pub mod Walking
pub mod Verdicts
pub mod Sessions
