pub mod Spoken
pub mod Rows
pub mod Stands
pub mod Outcomes
