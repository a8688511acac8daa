pub mod Parts
pub mod Agreement
