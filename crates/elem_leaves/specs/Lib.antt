pub mod Finite
pub mod Floats
pub mod Leaves
pub mod Signs
pub mod Numbers
