pub mod Reason
pub mod Blames
pub mod View
pub mod Words
pub mod Said
