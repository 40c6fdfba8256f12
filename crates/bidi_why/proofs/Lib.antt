pub mod SummaryLemmas
pub mod InputLemmas
pub mod TellingLemmas
pub mod ConversationLemmas
pub mod HearingLemmas
pub mod SettlingLemmas
pub mod KeptLemmas
