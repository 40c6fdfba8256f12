pub mod RunLemmas
pub mod RouteLemmas
