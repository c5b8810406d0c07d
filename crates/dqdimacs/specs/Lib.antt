pub mod Loading
pub mod Statements
