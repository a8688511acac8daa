pub mod Nexts
pub mod Pass
pub mod Settled
