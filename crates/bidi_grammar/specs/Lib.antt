pub mod Number
pub mod Term
pub mod Fits
pub mod Reason
pub mod Judges
pub mod View
pub mod Source
pub mod Words
