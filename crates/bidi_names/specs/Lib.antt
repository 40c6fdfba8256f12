pub mod Names
pub mod Sums
pub mod Subscriptions
pub mod Asked
pub mod Replies
pub mod View
