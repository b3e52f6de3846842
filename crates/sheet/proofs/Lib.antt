pub mod Handed
pub mod Sheets
pub mod Streams
