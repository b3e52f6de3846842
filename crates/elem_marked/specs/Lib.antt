pub mod Parts
pub mod Marks
pub mod Errors
pub mod Needed
