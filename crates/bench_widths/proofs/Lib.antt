pub mod OwnRows
pub mod Reaching
pub mod Replaying
