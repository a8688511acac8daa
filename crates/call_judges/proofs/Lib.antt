pub mod Order
pub mod Tuples
pub mod Judging
pub mod Orderly
pub mod Formed
pub mod Settled
