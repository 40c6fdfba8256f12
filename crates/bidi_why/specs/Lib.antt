pub mod Counting
pub mod Summary
pub mod Input
pub mod Telling
pub mod Conversing
pub mod Hearing
pub mod Explainers
