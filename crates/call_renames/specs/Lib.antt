pub mod Blocks
pub mod Split
