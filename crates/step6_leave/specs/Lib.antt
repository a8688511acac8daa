pub mod Links
pub mod Gone
