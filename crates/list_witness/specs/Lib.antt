pub mod Witness
pub mod TwoFeet
pub mod Twice
