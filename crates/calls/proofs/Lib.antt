-- The theorems, under the names of specs/Statements/
pub mod Refutation
pub mod Reloading
