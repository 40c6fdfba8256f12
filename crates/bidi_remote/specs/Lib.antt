pub mod Machine
pub mod Replies
pub mod Strike
pub mod State
