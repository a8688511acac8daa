pub mod Judging
pub mod Settled
