pub mod Growing
pub mod Indexing
pub mod Settled
