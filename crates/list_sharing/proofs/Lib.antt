pub mod Unshared
pub mod Whole
pub mod Found
pub mod Own
pub mod Sharing
pub mod Locality
pub mod Reordering
