pub mod Digits
pub mod Having
