pub mod First
pub mod Pushing
pub mod Tests
