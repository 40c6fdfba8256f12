pub mod LevelLemmas
pub mod ExactLemmas
pub mod JudgeLemmas
pub mod OneAnswerLemmas
pub mod TableLemmas
pub mod ListsLemmas
pub mod SourceLemmas
pub mod WordLemmas
