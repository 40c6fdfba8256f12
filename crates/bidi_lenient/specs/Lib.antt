pub mod Members
pub mod Methods
pub mod Names
pub mod Source
pub mod Reports
pub mod Eased
