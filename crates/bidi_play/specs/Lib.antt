pub mod Lines
pub mod Plays
pub mod Players
