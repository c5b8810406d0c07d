pub mod Bytes
pub mod State
pub mod Tables
