pub mod Laid
pub mod Listed
pub mod Output
