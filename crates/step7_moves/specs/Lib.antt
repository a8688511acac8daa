pub mod Relink
pub mod Parted
pub mod Moves
pub mod Moving
