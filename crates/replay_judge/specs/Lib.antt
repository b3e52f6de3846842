pub mod Carried
pub mod Stands
pub mod Replayed
