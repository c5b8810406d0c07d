-- What is claimed of a load and the calls behind it
pub mod Refutation
pub mod Reloading
