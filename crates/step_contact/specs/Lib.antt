pub mod Contact
pub mod Cells
pub mod Places
