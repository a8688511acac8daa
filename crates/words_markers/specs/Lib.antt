pub mod Fits
pub mod Houses
pub mod Sites
pub mod Calls
