pub mod Choosing
pub mod Steps
pub mod KeyLemmas
pub mod Entering
pub mod InZones
pub mod Crossing
pub mod ByNumber
pub mod OnImages
