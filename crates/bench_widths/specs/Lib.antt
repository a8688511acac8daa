pub mod Views
pub mod Reaching
