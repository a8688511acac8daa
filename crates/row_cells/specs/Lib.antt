pub mod Stored
pub mod Listing
