pub mod Point
pub mod Block
pub mod Pair
pub mod Pushing
pub mod Tests
