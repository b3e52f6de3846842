pub mod Zeros
pub mod Implied
pub mod Six
pub mod Pushes
pub mod Points
pub mod Tested
pub mod Quick
