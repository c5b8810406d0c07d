pub mod Examined
pub mod Adding
