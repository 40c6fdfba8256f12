pub mod Feeds
pub mod Devices
pub mod InputLines
pub mod Skipping
pub mod Stops
pub mod Answering
