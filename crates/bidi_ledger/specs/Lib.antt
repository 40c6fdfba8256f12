pub mod Pairing
pub mod Link
pub mod Ledger
pub mod Steps
