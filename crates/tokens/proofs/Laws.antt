-- Laws of the definitions
pub mod Pieces
