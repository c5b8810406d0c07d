-- the theorems, under the names of specs/Statements.antt
pub mod AnyWidth
pub mod Widths
-- what they rest on
pub mod Laws
