pub mod Words
pub mod Statements
