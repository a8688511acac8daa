pub mod Putting
pub mod Pieces
pub mod Decimals
pub mod Bounds
pub mod Settled
