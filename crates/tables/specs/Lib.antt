pub mod Tables
pub mod Spread
pub mod WellFormed
pub mod Adding
pub mod Unusable
pub mod FormulaEntries
pub mod Statements
pub mod Lent
