pub mod IdLemmas
pub mod KeptLemmas
pub mod ReportLemmas
pub mod SourceLemmas
pub mod WritableLemmas
