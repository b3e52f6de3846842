pub mod Normal
pub mod Pair
pub mod Pushing
