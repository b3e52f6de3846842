pub mod OneByOne
pub mod Reordered
pub mod Swaps
pub mod Local
