pub mod Onward
pub mod Seen
pub mod Settled
