pub mod Marked
pub mod Leading
pub mod Stayers
pub mod Movers
pub mod Cleaning
pub mod Widths
