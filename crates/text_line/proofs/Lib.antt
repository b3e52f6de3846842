pub mod Room
pub mod Stored
pub mod Opened
