pub mod Order
pub mod Ranks
