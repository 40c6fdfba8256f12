pub mod ErrorCode
pub mod InfoContent
pub mod InfoLaws
pub mod InfoView
pub mod InfoParts
pub mod Session
pub mod Words
