pub mod Bases
pub mod Primers
pub mod Calls
