pub mod Pending
pub mod Received
pub mod Receiving
pub mod View
pub mod Outcome
