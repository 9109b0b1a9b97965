pub mod Nearest
pub mod Coded
pub mod Cost
pub mod Register
pub mod Windows
pub mod Runs
