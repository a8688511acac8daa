pub mod Looking
pub mod Settled
