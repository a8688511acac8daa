pub mod Tables
pub mod Settled
