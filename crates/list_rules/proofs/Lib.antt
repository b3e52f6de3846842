pub mod Steps
pub mod Going
pub mod Room
pub mod Done
pub mod Rows
pub mod Exact
pub mod Few
pub mod Answered
