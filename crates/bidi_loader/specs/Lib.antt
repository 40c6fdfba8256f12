-- The definitions of this crate.
pub mod Plain
pub mod Meaning
pub mod Readings
pub mod Loading
