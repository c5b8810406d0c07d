-- Laws of the definitions, each group in the order of its definitions
pub mod Tests
pub mod Lists
pub mod Parts
pub mod Signed
pub mod Literals
pub mod Clauses
pub mod Order
pub mod Clashes
pub mod Masks
pub mod Words
pub mod Containment
pub mod Digits
pub mod Counting
pub mod Models
pub mod Outcomes
pub mod Stopping
pub mod Dependencies
