pub mod Only
pub mod Settled
