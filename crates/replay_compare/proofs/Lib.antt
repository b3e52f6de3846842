pub mod Apart
pub mod Cases
pub mod Beside
pub mod Runs
