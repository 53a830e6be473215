pub mod Survey
pub mod Cells
pub mod Cuts
pub mod Findings
pub mod Slices
pub mod Terms
