pub mod Tables
pub mod Rowwise
pub mod Lengths
