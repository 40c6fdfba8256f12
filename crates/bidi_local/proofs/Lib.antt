pub mod MeaningLemmas
pub mod OneMeaning
pub mod PendingLemmas
pub mod SendingLemmas
pub mod OutcomeLemmas
