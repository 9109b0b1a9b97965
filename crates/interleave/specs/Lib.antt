pub mod Interleave
pub mod Bursts
