pub mod ScriptLines
pub mod View
pub mod Outcomes
pub mod Performing
pub mod InOrder
pub mod ScriptPlayers
pub mod ScriptedPlays
