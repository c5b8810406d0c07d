pub mod Bytes
pub mod RoundTrip
pub mod Signed
pub mod State
pub mod Tables
