-- Laws of the lines of a formula
pub mod Walks
pub mod Universals
pub mod Prefix
pub mod Clauses
