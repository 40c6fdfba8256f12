pub mod FitsLemmas
pub mod FitsTest
pub mod ProfileFacts
pub mod PartLemmas
pub mod GatherLemmas
