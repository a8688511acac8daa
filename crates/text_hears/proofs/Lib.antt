pub mod Heard
pub mod Hearing
pub mod Settled
