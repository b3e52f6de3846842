pub mod Stays
pub mod Flags
pub mod SoFar
