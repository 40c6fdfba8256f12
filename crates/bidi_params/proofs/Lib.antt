pub mod InfoLemmas
pub mod PartLemmas
