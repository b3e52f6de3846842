pub mod Places
pub mod Lengths
