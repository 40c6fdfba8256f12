pub mod SiblingLemmas
pub mod NestedLemmas
pub mod WellLemmas
pub mod CutLemmas
pub mod CutFacts
