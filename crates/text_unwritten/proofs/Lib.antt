pub mod Prints
pub mod Small
pub mod Kept
pub mod AsLong
pub mod Loads
pub mod AsRead
pub mod Signs
pub mod Pushing
