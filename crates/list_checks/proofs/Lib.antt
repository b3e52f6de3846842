pub mod Some
pub mod Passed
pub mod Alike
