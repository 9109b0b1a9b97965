pub mod Bits
pub mod Xor
pub mod Storing
