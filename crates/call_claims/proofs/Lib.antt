pub mod Parts
pub mod Settled
