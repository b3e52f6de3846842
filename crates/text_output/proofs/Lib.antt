pub mod Bounds
pub mod Examples
pub mod Refusals
