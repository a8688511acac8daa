pub mod Bytes
pub mod Visible
pub mod Told
pub mod Settled
