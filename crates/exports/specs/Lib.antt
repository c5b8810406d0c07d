pub mod Calls
pub mod Statements
