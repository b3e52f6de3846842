pub mod Sweep
pub mod Whole
pub mod Exact
pub mod Few
