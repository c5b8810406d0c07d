pub mod Laid
pub mod Masking
pub mod Small
