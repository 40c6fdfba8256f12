pub mod MessageLines
pub mod Listings
pub mod Listers
