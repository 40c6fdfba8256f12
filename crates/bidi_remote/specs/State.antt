-- What the state of a remote end means: the rows that contracts see, and the past that they agree with.
pub mod ConnectionRows
pub mod EventTexts
pub mod MissedRows
pub mod SessionRows
pub mod Routes
pub mod RowsRead
pub mod Asked
pub mod Turns
pub mod Stands
pub mod Heard
