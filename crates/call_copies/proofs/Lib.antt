pub mod Refuted
pub mod Letters
pub mod Compared
pub mod Stretched
pub mod Counted
pub mod Agreed
pub mod Roots
pub mod Settled
