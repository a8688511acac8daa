pub mod Lefts
pub mod Growing
pub mod Walks
pub mod Passing
