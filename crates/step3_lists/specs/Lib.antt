pub mod Lists
pub mod Walk
pub mod Waits
pub mod Filed
