pub mod Refused
pub mod Settled
