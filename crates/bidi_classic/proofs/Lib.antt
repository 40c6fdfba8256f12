pub mod ReplyLemmas
