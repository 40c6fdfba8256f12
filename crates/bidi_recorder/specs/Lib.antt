pub mod OneLine
pub mod RowCommands
pub mod PageLines
pub mod Hosting
pub mod Faults
