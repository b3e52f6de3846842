pub mod Numbers
pub mod Chain
pub mod Exact
pub mod Told
