pub mod Line
pub mod Report
pub mod Parts
