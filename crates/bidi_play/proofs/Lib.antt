pub mod DigitLemmas
pub mod WordLemmas
pub mod LevelLemmas
pub mod PlayLemmas
pub mod ReadingLemmas
pub mod OneTextLemmas
