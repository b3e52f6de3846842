pub mod Spots
pub mod Meets
