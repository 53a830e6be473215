mod Texts
mod Places
mod ToldPlaces
mod KeptLines
mod Telling
mod Explaining
mod Answering
pub mod Decided
