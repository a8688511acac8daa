pub mod Gaps
pub mod Rows
pub mod Lines
pub mod Agree
pub mod Parts
pub mod Cuts
pub mod Settled
