pub mod Payload
pub mod Bytes
pub mod Refusal
pub mod RoundTrip
pub mod Parts
pub mod Putting
pub mod Filling
pub mod Taking
