pub mod Runs
pub mod Starts
pub mod RunLayout
pub mod Lists
pub mod Unread
pub mod Fewer
pub mod Known
