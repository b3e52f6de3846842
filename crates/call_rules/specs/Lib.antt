pub mod Call
pub mod Demands
pub mod Room
pub mod Swapped
pub mod Few
pub mod Pushing
