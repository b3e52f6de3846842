pub mod Parts
pub mod Laws
pub mod Lent
pub mod Places
pub mod Fronts
