-- Laws of a text read line by line
pub mod OpeningLines
pub mod LineForms
pub mod Texts
