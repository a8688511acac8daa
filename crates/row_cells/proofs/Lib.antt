pub mod Stored
pub mod Adding
pub mod Listed
