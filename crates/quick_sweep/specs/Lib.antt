pub mod Flags
pub mod Next
