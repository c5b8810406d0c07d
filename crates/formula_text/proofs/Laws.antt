-- Laws of a whole text
pub mod Whole
pub mod Lengths
pub mod Outcomes
pub mod Written
