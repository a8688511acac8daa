pub mod Bytes
pub mod Settled
