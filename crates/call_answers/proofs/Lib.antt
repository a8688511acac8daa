pub mod One
pub mod Settled
