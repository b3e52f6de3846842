pub mod Snoc
pub mod Removed
pub mod Reorder
pub mod Swaps
pub mod Commuting
