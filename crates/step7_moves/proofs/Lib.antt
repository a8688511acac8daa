pub mod OneMove
pub mod Codes
pub mod Prior
pub mod Late
pub mod Parted
pub mod Stepped
pub mod MovedOn
pub mod Turns
