pub mod ResultLemmas
pub mod FeedLemmas
pub mod DeviceLemmas
pub mod InputLineLemmas
pub mod SkippingLemmas
pub mod AnsweringLemmas
pub mod StopLemmas
