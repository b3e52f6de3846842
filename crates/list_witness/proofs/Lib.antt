pub mod WorkedOut
pub mod Witness
pub mod TwoFeet
pub mod Twice
