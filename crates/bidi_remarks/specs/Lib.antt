pub mod Beyond
pub mod Trimming
pub mod Claim
pub mod Trouble
pub mod Texts
pub mod Remark
pub mod Explaining
pub mod Results
