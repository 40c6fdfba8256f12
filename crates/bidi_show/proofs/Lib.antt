pub mod ListingLemmas
pub mod MessageLineLemmas
