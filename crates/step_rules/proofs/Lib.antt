pub mod Chain
pub mod Order
