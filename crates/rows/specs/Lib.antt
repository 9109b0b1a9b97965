pub mod Rows
pub mod Remaining
