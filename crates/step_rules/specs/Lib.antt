pub mod Numbered
pub mod Step
pub mod Order
