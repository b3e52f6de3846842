pub mod Keeps
pub mod Stored
pub mod NoKind
