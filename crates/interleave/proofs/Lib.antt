pub mod Lies
pub mod Order
pub mod Carries
pub mod Shift
pub mod Placed
pub mod Bursts
pub mod Steps
