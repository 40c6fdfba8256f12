pub mod ExclusionLemmas
pub mod PlainLemmas
pub mod LevelLemmas
pub mod JudgeLemmas
pub mod WordLemmas
pub mod WordFacts
