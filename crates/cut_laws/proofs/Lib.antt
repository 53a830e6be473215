pub mod Among
pub mod Rows
pub mod Places
pub mod Turning
pub mod Lemmas
