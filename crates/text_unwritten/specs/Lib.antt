pub mod AsRead
pub mod Loads
pub mod Pushing
