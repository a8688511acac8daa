pub mod Flags
pub mod Once
pub mod Words
pub mod None
pub mod Emptying
