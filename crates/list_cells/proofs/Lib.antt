pub mod Answers
pub mod Back
pub mod Points
pub mod Put
pub mod Rows
pub mod Written
