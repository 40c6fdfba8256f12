pub mod SocketTaking
pub mod SocketSending
