pub mod Tables
pub mod InOrder
