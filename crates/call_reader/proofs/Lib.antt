pub mod Takes
pub mod Walks
pub mod Settled
mod Held
