pub mod Moments
pub mod Remembered
pub mod Replaying
pub mod Interleaved
