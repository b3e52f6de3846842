pub mod Finite
pub mod Signs
