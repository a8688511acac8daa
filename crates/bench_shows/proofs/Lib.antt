pub mod Collecting
pub mod Lengths
