pub mod FindingLemmas
pub mod RestLemmas
