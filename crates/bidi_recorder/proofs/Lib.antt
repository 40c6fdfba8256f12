pub mod FeedLemmas
pub mod SayingLemmas
pub mod LineLemmas
pub mod HostLemmas
