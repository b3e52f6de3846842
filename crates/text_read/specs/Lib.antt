pub mod Text
pub mod Portions
pub mod Carried
pub mod Handed
pub mod Calls
