pub mod Collecting
pub mod Places
