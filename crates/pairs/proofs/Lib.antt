pub mod Walks
pub mod Spread
pub mod Turns
pub mod Gathered
pub mod Filled
