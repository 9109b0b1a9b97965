pub mod Number
pub mod Value
pub mod Finding
pub mod Answers
pub mod Quantise
pub mod Promises
pub mod Cases
pub mod Parts
