pub mod Sharing
pub mod Unshared
pub mod Own
pub mod Locality
pub mod Reordering
