pub mod Night
pub mod Lines
pub mod Filled
