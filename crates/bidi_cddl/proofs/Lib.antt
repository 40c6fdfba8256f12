pub mod PlaceLemmas
pub mod ReadLemmas
pub mod ReadingLemmas
pub mod RuleLemmas
pub mod SizeLemmas
pub mod TokenLemmas
pub mod TokenRows
