pub mod Steps
pub mod Counting
pub mod Tables
pub mod Seeing
pub mod Giving
pub mod Once
