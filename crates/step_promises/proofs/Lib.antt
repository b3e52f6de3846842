pub mod Promises
pub mod Pushing
