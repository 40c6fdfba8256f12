pub mod Names
pub mod Grammar
pub mod Weight
