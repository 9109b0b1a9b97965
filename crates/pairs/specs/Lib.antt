pub mod Walks
pub mod Over
pub mod Turns
