pub mod Refine
pub mod Links
pub mod Phases
pub mod Leaving
