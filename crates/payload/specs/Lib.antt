pub mod Payload
pub mod Open
pub mod Calls
