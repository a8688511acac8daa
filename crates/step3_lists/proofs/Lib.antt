pub mod Chains
pub mod Filing
pub mod Waits
pub mod Changing
pub mod Passing
