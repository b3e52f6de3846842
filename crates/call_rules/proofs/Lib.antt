pub mod Before
pub mod Demands
pub mod Kept
pub mod Reordered
pub mod Swapped
pub mod Pushing
