pub mod Deeds
pub mod Runs
pub mod Goes
pub mod Clients
