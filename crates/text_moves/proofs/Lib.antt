pub mod Shapes
pub mod Pieces
pub mod Bounds
pub mod Settled
