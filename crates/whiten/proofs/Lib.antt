pub mod Entries
pub mod Period
pub mod Walk
pub mod Whiten
