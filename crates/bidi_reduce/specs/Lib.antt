pub mod Own
pub mod Kept
pub mod Seen
pub mod Follows
pub mod Strikes
pub mod Reduces
pub mod Reducers
