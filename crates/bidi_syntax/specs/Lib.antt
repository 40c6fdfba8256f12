pub mod Bytes
pub mod Grammar
pub mod Reading
pub mod Surrogates
pub mod Numbers
pub mod Words
pub mod Faults
