pub mod Capture
pub mod Answers
pub mod Writing
pub mod Reading
pub mod Promises
pub mod Parts
