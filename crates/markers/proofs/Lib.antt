pub mod Scores
pub mod Parts
