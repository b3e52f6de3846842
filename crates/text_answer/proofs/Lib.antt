pub mod Floating
pub mod Called
