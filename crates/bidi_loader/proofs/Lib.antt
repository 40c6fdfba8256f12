-- The lemmas of this crate.
pub mod OptionLemmas
pub mod TextLemmas
pub mod TreeLemmas
pub mod NodeLemmas
pub mod ReadingLemmas
pub mod GroupLemmas
pub mod AlternativeLemmas
pub mod ItemLemmas
pub mod MadeLemmas
pub mod ComesLemmas
pub mod LoadLemmas
