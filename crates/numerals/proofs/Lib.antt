-- Laws of the definitions
pub mod Laws
