pub mod Level
pub mod Ownership
pub mod RealmType
pub mod Maps
pub mod Outcomes
pub mod LogEntry
