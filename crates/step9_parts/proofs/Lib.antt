pub mod Order
pub mod Choosing
pub mod Weighing
pub mod Turning
