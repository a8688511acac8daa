pub mod Words
pub mod Fronts
pub mod Scanned
pub mod Settled
