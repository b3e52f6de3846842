pub mod Tables
pub mod Answered
pub mod InPortions
