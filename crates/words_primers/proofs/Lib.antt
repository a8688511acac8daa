pub mod Letters
pub mod Sets
pub mod Turning
pub mod Places
pub mod Mirror
pub mod Judged
pub mod Known
