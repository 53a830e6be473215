pub mod Boxes
pub mod Stops
pub mod Lines
pub mod Nodes
pub mod Reports
pub mod ReadsBack
