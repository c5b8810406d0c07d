pub mod Fits
pub mod Named
pub mod Short
pub mod Written
