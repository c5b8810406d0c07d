-- Laws of texts laid over an output, and of the words of a line
pub mod Laid
pub mod Words
pub mod Listed
