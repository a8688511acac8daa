pub mod Named
pub mod Said
pub mod Settled
