-- The claims of specs/Statements.antt: of the lent tables, of the driver's buffers, and of a written formula
pub mod Buffers
pub mod Tables
pub mod Names
pub mod Written
