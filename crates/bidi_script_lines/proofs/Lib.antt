pub mod OrderLemmas
pub mod ScriptPlayLemmas
pub mod PlainLemmas
pub mod PerformLemmas
pub mod StepLemmas
pub mod ContinueLemmas
