pub mod Stops
pub mod Settled
