pub mod Proved
pub mod Needed
