pub mod Entries
pub mod Writing
