pub mod Stores
pub mod Gone
