pub mod Method
pub mod EventName
pub mod Payload
pub mod CommandData
pub mod ResultData
pub mod EventData
