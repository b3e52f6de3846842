pub mod LineCounts
pub mod Spent
pub mod Feeding
pub mod Held
