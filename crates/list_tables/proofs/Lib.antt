pub mod Contacts
pub mod Floats
pub mod Velocities
pub mod Steps
pub mod InOrder
