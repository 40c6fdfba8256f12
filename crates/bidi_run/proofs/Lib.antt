pub mod ScriptReduceLemmas
pub mod TellingLemmas
pub mod SummaryLemmas
