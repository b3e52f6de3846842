pub mod Kept
pub mod Knowing
pub mod Stays
pub mod Turns
