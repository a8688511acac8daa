pub mod Counted
pub mod Cells
pub mod Shapes
pub mod Rows
pub mod Sizes
pub mod Walks
pub mod Bounds
pub mod Settled
