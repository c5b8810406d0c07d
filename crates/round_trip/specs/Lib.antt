pub mod Statements
pub mod AfterSteps
