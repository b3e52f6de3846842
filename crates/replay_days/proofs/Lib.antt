pub mod Counted
pub mod Online
pub mod Bytes
pub mod Portions
pub mod Examples
pub mod Same
pub mod Runs
