pub mod Fields
pub mod Laws
pub mod Refutation
pub mod RoundTrip
pub mod Shown
