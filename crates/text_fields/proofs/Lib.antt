pub mod Until
pub mod Runs
pub mod Blocks
pub mod Small
pub mod Turn
pub mod Eight
pub mod Rows
