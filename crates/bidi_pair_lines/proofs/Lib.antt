pub mod LedgerLemmas
pub mod PairLemmas
pub mod WordLemmas
