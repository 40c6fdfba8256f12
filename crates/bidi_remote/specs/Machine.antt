-- The machine: what a remote end hears, what it does, and what it sends. All of it is a function of the list of past inputs.
pub mod History
pub mod Sessions
pub mod Connections
pub mod Subscriptions
pub mod LogBuffer
pub mod Commands
pub mod Outcome
pub mod Sent
pub mod Messages
pub mod Asking
