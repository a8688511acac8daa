pub mod Sweeps
pub mod Turning
pub mod Grouping
