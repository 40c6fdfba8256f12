pub mod StringLemmas
pub mod NumberLemmas
pub mod PartLemmas
pub mod IndexLemmas
pub mod ReadingLemmas
pub mod RefusalLemmas
