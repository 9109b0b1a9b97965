pub mod Machine
pub mod Tail
pub mod Numbered
pub mod Spread
