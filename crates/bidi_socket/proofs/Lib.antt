pub mod SendingLemmas
pub mod TakingLemmas
