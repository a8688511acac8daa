pub mod Turns
pub mod Pending
pub mod Programs
pub mod Advancing
pub mod Settled
