pub mod Sweep
pub mod Turns
pub mod Groups
