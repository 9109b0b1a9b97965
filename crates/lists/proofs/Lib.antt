pub mod Lists
pub mod Every
