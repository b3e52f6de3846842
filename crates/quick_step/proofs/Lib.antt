pub mod There
pub mod AsRead
pub mod Looked
pub mod Written
pub mod Worked
