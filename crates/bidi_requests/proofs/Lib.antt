pub mod AskingLemmas
pub mod BodyLemmas
pub mod DigitLemmas
pub mod ExtensionLemmas
pub mod FrontLemmas
pub mod SignLemmas
pub mod TargetLemmas
