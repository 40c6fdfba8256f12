pub mod Commands
pub mod Replies
pub mod Routes
