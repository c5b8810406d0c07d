-- What is claimed of the driver's calls
pub mod Fields
pub mod Refutation
pub mod RoundTrip
pub mod Shown
