pub mod Answer
pub mod Output
pub mod Refusals
pub mod Examples
pub mod Bounds
