pub mod Masks
pub mod Clauses
