pub mod Coder
pub mod Cost
pub mod Nearest
pub mod Register
pub mod Encode
