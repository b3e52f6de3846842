pub mod Whole
pub mod InPortions
