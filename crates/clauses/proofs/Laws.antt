pub mod Clauses
pub mod Places
pub mod Literals
pub mod Writing
