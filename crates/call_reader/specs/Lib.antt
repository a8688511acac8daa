pub mod Readers
pub mod Walks
