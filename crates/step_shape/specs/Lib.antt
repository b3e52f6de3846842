pub mod Shape
pub mod Numbered
