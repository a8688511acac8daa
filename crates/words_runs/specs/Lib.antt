pub mod Runs
pub mod Calls
