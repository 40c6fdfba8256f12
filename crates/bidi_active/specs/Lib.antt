pub mod Written
pub mod Places
pub mod News
pub mod SessionRows
pub mod SessionView
