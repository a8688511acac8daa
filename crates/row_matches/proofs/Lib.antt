pub mod Same
pub mod Matching
pub mod Settled
