pub mod Judged
pub mod Going
pub mod Portions
pub mod Examples
pub mod Same
