pub mod SumLemmas
pub mod AskLemmas
pub mod ReplyLemmas
pub mod SubscriptionLemmas
