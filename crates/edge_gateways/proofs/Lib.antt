pub mod PairSteps
pub mod Publics
pub mod FarBlocks
pub mod Carrying
pub mod Ranges
pub mod Turning
pub mod OnImages
pub mod Standing
