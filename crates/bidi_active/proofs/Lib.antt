pub mod PlaceLemmas
pub mod NewLemmas
pub mod AnnounceLemmas
pub mod RowLemmas
pub mod CopyLemmas
