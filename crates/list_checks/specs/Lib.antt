pub mod Checks
pub mod LargestOf
