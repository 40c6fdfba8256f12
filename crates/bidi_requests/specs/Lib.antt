pub mod Answering
pub mod Bodies
pub mod Extensions
pub mod Origins
pub mod Requests
pub mod Targets
