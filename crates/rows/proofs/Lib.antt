pub mod Lists
pub mod Weighs
pub mod Step
pub mod Decided
pub mod Fill
