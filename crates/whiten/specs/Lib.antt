pub mod Whiten
